use Rattle.std.proofs.Common.{◌≡◌, ◌*◌, length}
use Prim.Native.Nat.{min}
use Rattle.dct2_block.specs.Stages.{middle_of, Tiles}
use Rattle.dct2_block.proofs.down.downs.Given as goal

abbrev pub invariant-loop-strip : goal.invariant-loop-strip
invariant-loop-strip l = (length l.m ≡ l.columns * l.h) × Tiles (min l.h 8) 8 (8 * l.h) (8 * l.strip) l.h (middle_of l.h l.stride l.rows l.c) l.m
