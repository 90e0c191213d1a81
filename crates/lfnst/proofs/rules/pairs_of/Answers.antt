use Rattle.std.proofs.Common.{refl}
use mathlib.Core.Logic.{inl, inr}
use borrow.Author.Tests.{ne_eqb}
use Rattle.lfnst.specs.LowFrequency.{inputs}
use Rattle.lfnst.proofs.rules.pairs_of.Goals as goal

pub returns-in-4-eq4 : goal.returns-in-4-eq4
unfolding inputs
returns-in-4-eq4 c = (rw (c.in-4-eq4.is-0, c.in-4-eq4.is-1) refl, inl refl)

pub returns-in-4-eq4-2 : goal.returns-in-4-eq4-2
unfolding inputs
returns-in-4-eq4-2 c = (rw (c.in-4-eq4.is-0, c.in-4-eq4.is-1) refl, inl refl)

pub returns-in_default : goal.returns-in_default
unfolding inputs
returns-in_default c = (rw (c.in_default.is-0, ne_eqb _ 4 c.in_default.is-1.1) refl, inr refl)

pub returns-in_default-2 : goal.returns-in_default-2
unfolding inputs
returns-in_default-2 c = (rw (c.in_default.is-0, ne_eqb _ 8 c.in_default.is-1.1) refl, inr refl)

pub returns-in_default-3 : goal.returns-in_default-3
unfolding inputs
returns-in_default-3 c = (rw (ne_eqb _ 4 c.in_default.is-0.0.1, ne_eqb _ 8 c.in_default.is-0.1) refl, inr refl)
