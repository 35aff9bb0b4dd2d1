use Rattle.std.proofs.Common.{◌≡◌, ℕ, ℤ, pos, negsuc, ◌+ℤ◌, ◌*ℤ◌, nat_abs, refl, ap}
use lib.IntN.{*ℤ-zero}
use Rattle.measures.specs.Rounding.{rounded}
use Rattle.pricing.proofs.laws.worked_figures.Goals as goal

-- two quarters without offers add nothing to the worth s of the other two
two_empty : (s p : ℤ) (n : ℕ) → rounded (pos (nat_abs (s +ℤ p *ℤ pos 0 +ℤ p *ℤ pos 0))) n ≡ rounded (pos (nat_abs (s +ℤ pos 0 +ℤ pos 0))) n
two_empty s p n = ap (λ (z : ℤ). rounded (pos (nat_abs (s +ℤ z +ℤ z))) n) (*ℤ-zero p)

pub returns : goal.returns
returns c = record {
  above = λ v p. refl;
  even = λ v p. refl;
  below = λ v p. refl;
  half = λ v p. two_empty (pos 800001000) p.kop 2000;
  third = λ v p. two_empty (pos 1200001000) p.kop 3000;
  negative = λ v p. two_empty (negsuc 6999) p.kop 2000;
  halfway = refl;
  forced_only = λ v p. (refl, refl);
  nothing = λ v p. refl;
}
