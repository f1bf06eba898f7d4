-- `read_names`: the number of names that are left falls. Each return is one law over what the calls gave. Assumes nothing.
use mathlib.Core.Path.{refl}
use Rattle.reading.proofs.Naming.{names_none, names_refused, name_there, names_on}
use Rattle.reading.proofs.names.+read_names.Goals as goal

pub returns-then-many-eq0 : goal.returns-then-many-eq0
returns-then-many-eq0 t c =
    names_none c.args.text.now c.args.head _ _ c.args.state.now c.if-many-eq0.true c.requires.0

pub past-state-requires : goal.past-state-requires
past-state-requires t c =
    let whole = name_there c.args.text.now c.args.head _ _ c.args.state.now c.if-many-eq0.false _ c.in-Ok.ensures in
    (c.requires.0, whole.ended)

pub returns-in-Err : goal.returns-in-Err
returns-in-Err t c =
    names_refused c.args.text.now c.args.head _ _ c.args.state.now c.if-many-eq0.false _ _ c.in-Err.ensures c.refuse.ensures

pub returns-in-Ok : goal.returns-in-Ok
returns-in-Ok t c =
    names_on c.args.text.now c.args.head _ _ c.args.state.now c.if-many-eq0.false _ c.in-Ok.ensures _ _ c.past-state.ensures.0 refl refl
    c.give-state.ensures c.read_names.ensures
