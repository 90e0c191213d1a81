-- The library's version as one number, which a program can compare: 10000 times the first number of it, 100 times the second, and the
-- third. `tests/header` holds it to the version that `blocks` prints.
use Rattle.std.specs.Prelude.{ℕ}

abbrev pub version : ℕ
version = 301
