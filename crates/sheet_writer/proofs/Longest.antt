-- How long the text of a sheet can be.
use Rattle.std.proofs.Common.{◌≡◌, ℕ, zero, suc, ◌+◌, ◌*◌, ◌/◌, ◌%◌, ◌<◌, ◌≤◌, Bool, true, false, eqb, List, [], ◌∷◌, ◌++◌, length, codes, decimal, refl, le_refl, mul-le-mul, arith, length-append}
use Rattle.std.specs.List.{flat_map, AllByRecursion}
use Rattle.std.specs.Fmt.{digits, digit_glyph, signed_decimal, digits_onto}
use Rattle.std.proofs.lemmas.Fmt.{length-decimal-le}
use Rattle.std.proofs.ByRecursion.{All-weaker}
use Rattle.std.proofs.lemmas.Bool.{cond_both}
use Rattle.text_buffer.proofs.Longest.{joined_length, signed_length}
use Rattle.measures.specs.declared.price.Price.{Price}
use Rattle.measures.specs.declared.volume.PeriodVolume.{PeriodVolume}
use Rattle.measures.specs.declared.volume.Volume.{Volume}
use Rattle.sheet.specs.Figures.{Figures}
use Rattle.sheet.specs.declared.lines.Direction.{Direction}
use Rattle.sheet.specs.declared.lines.Direction.TheVariants.{Up, Down}
use Rattle.sheet.specs.declared.lines.GroupLine.{GroupLine}
use Rattle.sheet.specs.declared.lines.Offer.{Offer}
use Rattle.sheet.specs.declared.lines.Position.{Position}
use Rattle.sheet.specs.declared.lines.Position.TheVariants.{Surplus, Shortage}
use Rattle.sheet.specs.declared.lines.UnitLine.{UnitLine}
use Rattle.sheet_writer.specs.Rendered.{spaced, line, period_fields, day_ahead_fields, forced_fields, offer_fields, unit_fields, group_fields, count_fields, end_fields, list_text, head_text, rendered}
use Rattle.sheet_writer.specs.Letters.{direction_letter, position_letter, constraint_letter}

spelled_length : (k n : ℕ) (acc : List ℕ) → length (digits_onto k 10 false n acc) ≤ k + length acc
spelled_length zero n acc = omega arith
spelled_length (suc k) n acc =
    cond_both (eqb (n / 10) 0) (digit_glyph false (n % 10) ∷ acc) (digits_onto k 10 false (n / 10) (digit_glyph false (n % 10) ∷ acc)) (λ ds. length ds ≤ suc k + length acc)
    (λ _. omega arith) (λ _. omega (arith, spelled_length k (n / 10) (digit_glyph false (n % 10) ∷ acc)))

-- no number has more digits
pub any_number : (n : ℕ) → length (decimal n) ≤ 64
unfolding digits
any_number n = spelled_length 64 n []

price_length : (p : Price) → length (signed_decimal p.kop) ≤ 9
price_length p = let small = p.limited in signed_length 8 10000000 p.kop (omega arith) (omega arith) (omega arith)

direction_length : (d : Direction) → length (direction_letter d) ≡ 1
direction_length Up = refl
direction_length Down = refl

position_length : (p : Position) → length (position_letter p) ≡ 1
position_length Surplus = refl
position_length Shortage = refl

constraint_length : (c : Bool) → length (constraint_letter c) ≡ 1
constraint_length true = refl
constraint_length false = refl

-- each field with the byte behind it
abbrev widths : List (List ℕ) → ℕ
widths [] = 0
widths (f ∷ fs) = length f + 1 + widths fs

line_length : (f : List ℕ) (fs : List (List ℕ)) → length (line (f ∷ fs)) ≡ widths (f ∷ fs)
line_length f [] = omega (arith, length-append f (codes "\n"))
line_length f (g ∷ fs) =
    omega (arith, length-append (f ++ (codes " " ++ spaced (g ∷ fs))) (codes "\n"), length-append f (codes " " ++ spaced (g ∷ fs)), length-append (spaced (g ∷ fs)) (codes "\n"), line_length g fs)

period_length : (zone day period : ℕ) → zone ≤ 2 → day ≤ 31 → period ≤ 24 → length (line (period_fields zone day period)) ≤ 15
period_length zone day period z d p =
    omega (
      arith,
      line_length (codes "PERIOD") (decimal zone ∷ decimal day ∷ decimal period ∷ []),
      length-decimal-le 1 zone (omega arith) (omega arith) (omega arith),
      length-decimal-le 2 day (omega arith) (omega arith) (omega arith),
      length-decimal-le 2 period (omega arith) (omega arith) (omega arith),
    )

day_ahead_length : (p : Price) → length (line (day_ahead_fields p)) ≤ 22
day_ahead_length p = omega (arith, line_length (codes "DAM") (signed_decimal p.kop ∷ codes "kop/MWh" ∷ []), price_length p)

forced_length : (v : PeriodVolume) → length (line (forced_fields v)) ≤ 22
forced_length v =
    let small = v.limited in
    omega (arith, line_length (codes "FORCED") (decimal v.kwh ∷ codes "kWh" ∷ codes "H" ∷ []), length-decimal-le 8 v.kwh (omega arith) (omega arith) (omega arith))

volume_length : (v : Volume) → length (decimal v.kwh) ≤ 7
volume_length v = let small = v.limited in length-decimal-le 7 v.kwh (omega arith) (omega arith) (omega arith)

-- the numbers of an entry have at most so many digits
abbrev pub OfferDigits : ℕ → ℕ → Offer → Type 0
OfferDigits q u o = (length (decimal o.quarter) ≤ q) × (length (decimal o.unit) ≤ u)

abbrev pub UnitDigits : ℕ → UnitLine → Type 0
UnitDigits k u = length (decimal u.unit) ≤ k

abbrev pub GroupDigits : ℕ → GroupLine → Type 0
GroupDigits k g = length (decimal g.party) ≤ k

offer_length : (q u : ℕ) (o : Offer) → OfferDigits q u o → length (line (offer_fields o)) ≤ q + u + 36
offer_length q u o h =
    let quarter = h.0 in
    let unit = h.1 in
    omega (
      arith,
      line_length (decimal o.quarter) (direction_letter o.direction ∷ decimal o.unit ∷ decimal o.volume.kwh ∷ codes "kWh" ∷ signed_decimal o.price.kop ∷ codes "kop/MWh" ∷ constraint_letter o.constrained ∷ []),
      direction_length o.direction,
      volume_length o.volume,
      price_length o.price,
      constraint_length o.constrained,
    )

unit_length : (k : ℕ) (u : UnitLine) → UnitDigits k u → length (line (unit_fields u)) ≤ k + 15
unit_length k u h =
    omega (
      arith,
      line_length (decimal u.unit) (direction_letter u.direction ∷ decimal u.energy.kwh ∷ codes "kWh" ∷ []),
      direction_length u.direction,
      volume_length u.energy,
    )

group_length : (k : ℕ) (g : GroupLine) → GroupDigits k g → length (line (group_fields g)) ≤ k + 15
group_length k g h =
    omega (
      arith,
      line_length (decimal g.party) (position_letter g.position ∷ decimal g.imbalance.kwh ∷ codes "kWh" ∷ []),
      position_length g.position,
      volume_length g.imbalance,
    )

-- a list of at most so many entries
list_length : {A : Type 0} (keyword : List ℕ) (fields : A → List (List ℕ)) (each many : ℕ) (xs : List A) → AllByRecursion (λ x. length (line (fields x)) ≤ each) xs → length xs ≤ many → many < 100 →
    length (list_text keyword fields xs) ≤ length keyword + 4 + each * many
list_length keyword fields each many xs short few two =
    let most : each * length xs ≤ each * many = mul-le-mul (le_refl each) few in
    omega (
      arith,
      length-append (line (count_fields keyword (length xs))) (flat_map (λ x. line (fields x)) xs),
      line_length keyword (decimal (length xs) ∷ []),
      length-decimal-le 2 (length xs) (omega arith) (omega arith) (omega arith),
      joined_length (λ x. line (fields x)) each xs short,
    )

-- the numbers of a sheet have at most so many digits, and its lists no more entries than places
pub record Digits (q u n p : ℕ) (s : Figures) : Type 0 where
  pub offers : AllByRecursion (OfferDigits q u) s.offers
  pub units : AllByRecursion (UnitDigits n) s.units
  pub groups : AllByRecursion (GroupDigits p) s.groups
  pub few_offers : length s.offers ≤ 24
  pub few_units : length s.units ≤ 16
  pub few_groups : length s.groups ≤ 16

module _ (zone day period : ℕ) (zone_to : zone ≤ 2) (day_to : day ≤ 31) (period_to : period ≤ 24) (s : Figures) where
  head_length : length (head_text zone day period s) ≤ 59
  head_length =
      let a = line (period_fields zone day period) in
      let b = line (day_ahead_fields s.day_ahead) in
      let c = line (forced_fields s.forced) in
      omega (arith, length-append a (b ++ c), length-append b c, period_length zone day period zone_to day_to period_to, day_ahead_length s.day_ahead, forced_length s.forced)

  pub rendered_length : (q u n p : ℕ) → Digits q u n p s → length (rendered zone day period s) ≤ 92 + (q + u + 36) * 24 + (n + 15) * 16 + (p + 15) * 16
  unfolding rendered
  rendered_length q u n p h =
      let head = head_text zone day period s in
      let offers = list_text (codes "OFFERS") offer_fields s.offers in
      let units = list_text (codes "UNITS") unit_fields s.units in
      let groups = list_text (codes "GROUPS") group_fields s.groups in
      let end = line end_fields in
      omega (
        arith,
        length-append head (offers ++ (units ++ (groups ++ end))),
        length-append offers (units ++ (groups ++ end)),
        length-append units (groups ++ end),
        length-append groups end,
        head_length,
        list_length (codes "OFFERS") offer_fields (q + u + 36) 24 s.offers (All-weaker (OfferDigits q u) _ (offer_length q u) s.offers h.offers) h.few_offers (omega arith),
        list_length (codes "UNITS") unit_fields (n + 15) 16 s.units (All-weaker (UnitDigits n) _ (unit_length n) s.units h.units) h.few_units (omega arith),
        list_length (codes "GROUPS") group_fields (p + 15) 16 s.groups (All-weaker (GroupDigits p) _ (group_length p) s.groups h.groups) h.few_groups (omega arith),
      )
