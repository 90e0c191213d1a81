-- The rows before y are added. Assumes nothing.
use mathlib.Core.Path.{◌≡◌}
use Prim.Native.Nat.{◌*◌, ◌≤◌}
use Rattle.transform_calm.specs.Calm.{read_sizes}
use Rattle.transform_calm.proofs.is_calm.Given as goal

abbrev pub invariant-loop-y : goal.invariant-loop-y
invariant-loop-y l = (l.sum ≡ read_sizes l.w l.columns l.y l.c) × (l.sum ≤ l.y * 33554432)
