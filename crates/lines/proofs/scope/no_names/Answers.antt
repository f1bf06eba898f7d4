-- `no_names`: every place holds nothing. Assumes nothing.
use Rattle.lines.proofs.Scopes.{blank}
use Rattle.lines.proofs.scope.no_names.Goals as goal

pub returns : goal.returns
returns c = blank 256
