-- Fields in a number that no line of a sheet has are the same fault as no fields at all.
use Rattle.std.specs.Prelude.{◌≡◌, ℕ, List, Result}
use Rattle.std.proofs.Common.{rules}
use Rattle.sheet_text.specs.declared.faults.LineFault.{LineFault}
use Rattle.sheet_text.specs.Lines.{four, eight}
use Rattle.sheet_text.specs.Listing.{usual}

module _ {A : Type 0} where
  pub four_usual : (says : ℕ → List ℕ → List ℕ → List ℕ → List ℕ → Result A LineFault) (l : ℕ) (fields : List (List ℕ)) → four says l (usual fields) ≡ four says l fields
  four_usual says l fields = search rules

  pub eight_usual : (says : ℕ → List ℕ → List ℕ → List ℕ → List ℕ → List ℕ → List ℕ → List ℕ → List ℕ → Result A LineFault) (l : ℕ) (fields : List (List ℕ)) → eight says l (usual fields) ≡ eight says l fields
  eight_usual says l fields = search rules
