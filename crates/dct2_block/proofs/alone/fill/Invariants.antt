use Rattle.algebra.proofs.Lists.{Filled}
use Rattle.dct2_block.proofs.alone.fill.Given as goal

abbrev pub invariant-loop-i : goal.invariant-loop-i
invariant-loop-i l = Filled 0 l.i l.r l.initial.r (λ _. l.v)
