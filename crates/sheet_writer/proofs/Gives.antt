-- What holds of what is read, where something is read.
use Rattle.std.proofs.Common.{◌≡◌, ℕ, Bool, true, false, cond, List, Some, None, Ok, Err, Option, Result, refl, subst}
use Rattle.std.specs.Str.{bytes_eq}
use Rattle.std.proofs.lemmas.Slice.Eq.{bytes_eq-Decides}
use Rattle.sheet_laws.proofs.Limited.{Gives}
use Rattle.sheet_text.specs.Lines.{need, fixed}
use Rattle.sheet_text.specs.Reading.{Left, inside}
use Rattle.sheet_text.specs.declared.faults.LineFault.{LineFault}
use Rattle.sheet_text.specs.declared.faults.Section.{Section}
use Rattle.sheet_text.specs.declared.faults.SheetFault.{SheetFault}

pub given : {A E : Type 0} (P : A → Type 0) (r : Result A E) (x : A) → Gives P r → r ≡ Ok x → P x
given P r x h e = subst (Gives P) e h

pub gives_inside : {A B : Type 0} (P : A → Left → Type 0) (Q : B → Type 0) (sec : Section) (r : Result (A × Left) LineFault) (follows : A → Left → Result B SheetFault)
    → Gives (λ x. P x.0 x.1) r → ((x : A) (s : Left) → P x s → Gives Q (follows x s)) → Gives Q (inside sec r follows)
gives_inside P Q sec (Ok x) follows h g = g x.0 x.1 h
gives_inside P Q sec (Err e) follows h g = tt

module _ {B : Type 0} (P : B → Type 0) where
  pub gives_need : {A : Type 0} (o : Option A) (fault : LineFault) (follows : A → Result B LineFault) → ((x : A) → o ≡ Some x → Gives P (follows x)) → Gives P (need o fault follows)
  gives_need None fault follows g = tt
  gives_need (Some x) fault follows g = g x refl

  pub gives_cond : {E : Type 0} (b : Bool) (fault : E) (r : Result B E) → (b ≡ true → Gives P r) → Gives P (cond b r (Err fault))
  gives_cond true fault r g = g refl
  gives_cond false fault r g = tt

  pub gives_fixed : (w v : List ℕ) (fault : LineFault) (r : Result B LineFault) → (w ≡ v → Gives P r) → Gives P (fixed w v fault r)
  gives_fixed w v fault r g = gives_cond (bytes_eq w v) fault r (λ same. g ((bytes_eq-Decides w v).0 same))
