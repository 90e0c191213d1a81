-- Which kernels there are: n points, of which the first `live` inputs are read, `count` columns or rows at a time, 8 or 4.
use Rattle.std.specs.Prelude.{Bool, ◌&&◌, ◌||◌, ℕ, eqb}

unfoldable pub is_kernel : ℕ → ℕ → ℕ → Bool
is_kernel count n live =
    eqb n 8 && eqb live 8
    || (eqb n 16 && eqb live 16
    || eqb count 8 && (eqb n 4 && eqb live 4 || (eqb n 8 && eqb live 4 || (eqb n 16 && eqb live 4 || (eqb n 32 && eqb live 8 || eqb n 32 && eqb live 32)))))
