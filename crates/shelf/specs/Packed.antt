-- A sheet as it is put on the shelf: each unused place has the same filler.
use Rattle.std.specs.Prelude.{◌≡◌, ℕ, List, ◌++◌, length, take, replicate}
use Rattle.std.proofs.Common.{arith, length-take, length-append}
use Rattle.std.proofs.lemmas.List.{length-replicate}
use Rattle.sheet.specs.Figures.{Figures}
use Rattle.sheet.specs.declared.entries.Entries.{Entries}
use Rattle.sheet.specs.Fillers.{no_offer, no_unit, no_group}
use Rattle.sheet.specs.declared.report.Sheet.{Sheet}

module _ {T : Type 0} where
  -- the entries, and the filler in the places behind them
  abbrev pub behind : ℕ → T → List T → List T
  behind places filler xs = take places (xs ++ replicate places filler)

  pub behind_full : (places : ℕ) (filler : T) (xs : List T) → length (behind places filler xs) ≡ places
  behind_full places filler xs = omega (arith, length-take places (xs ++ replicate places filler), length-append xs (replicate places filler), length-replicate places filler)

  abbrev pub packed : {N : ℕ} → T → List T → Entries T N
  packed {N} filler xs = record { items = behind N filler xs; len = length xs; full = behind_full N filler xs }

abbrev pub packed_sheet : Figures → Sheet
packed_sheet f = record {
  day_ahead = f.day_ahead;
  forced = f.forced;
  offers = packed no_offer f.offers;
  units = packed no_unit f.units;
  groups = packed no_group f.groups;
}
