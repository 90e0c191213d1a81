-- A stored table has its rule where one computed test of all its entries holds. Assumes nothing.
use mathlib.Core.Path.{◌≡◌, sym}
use mathlib.Core.List.{List}
use Prim.Native.Nat.{ℕ, ◌*◌}
use lib.Dec.{T}
use lib.IntN.{ℤ}
use lib.ListN.{length}
use Rattle.meaning.specs.Weights.{S}
use Rattle.tables.specs.Table.{Table}
use Rattle.algebra.proofs.Table.{by_place, every, table_at}

pub stored : (n : ℕ) (t : List ℤ) → n * n ≡ length t → T (every (by_place n (S n)) 0 t) → Table n t
stored n t l p = record { long = sym l; right = table_at n (S n) t p l }
