-- `number`: what the digits so far make, with those behind them, is the whole; and i digits make less than 16 to the i. Assumes nothing.
use Rattle.std.proofs.Common.{◌≡◌, ◌<◌, ◌^◌, drop}
use Rattle.inputs.specs.Header.{number_from}
use Rattle.inputs.proofs.header.number.Given as goal

abbrev pub invariant-loop-c : goal.invariant-loop-c
invariant-loop-c l = record {
  whole : number_from 0 l.digits ≡ number_from l.n (drop l.c-index l.digits);
  below : l.n < 16 ^ l.c-index;
}
