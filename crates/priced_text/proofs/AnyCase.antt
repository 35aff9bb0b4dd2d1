-- No priced text is longer than 935 bytes, whatever a history shows.
use Rattle.std.proofs.Common.{◌≡◌, ℕ, ◌≤◌, List, length, Ok}
use Rattle.std.proofs.ByRecursion.{All-weaker}
use Rattle.offers.specs.declared.span.Span.TheVariants.{Period}
use Rattle.sheet_text.specs.Reading.{Reported, reading}
use Rattle.sheet_laws.specs.Laws.{UnitWithin, GroupWithin}
use Rattle.sheet_laws.proofs.Limited.{within_limits}
use Rattle.pricing.specs.Cases.{Case}
use Rattle.pricing.specs.Prices.{state_in, settled}
use Rattle.priced_text.specs.Answers.{case_of}
use Rattle.priced_text.specs.Laws.{Listed, LongestPriced}
use Rattle.priced_text.specs.Priced.{text_of_priced}
use Rattle.priced_text.proofs.Pages.{page_length}
use Rattle.priced_text.proofs.SettledPrices.{settled_limited}

pub read_listed : (text : List ℕ) (r : Reported) → reading text ≡ Ok r → Listed r.figures
read_listed text r read =
    let limits = within_limits text r read in
    record {
      few_units = limits.few_units;
      few_groups = limits.few_groups;
      units = All-weaker UnitWithin (λ l. l.unit ≤ 999) (λ l h. h.unit.1) _ limits.units;
      groups = All-weaker GroupWithin (λ l. l.party ≤ 64) (λ l h. h.party.1) _ limits.groups;
    }

any_case : (c : Case) → Listed c.sheet → length (text_of_priced c) ≤ 935
unfolding text_of_priced
any_case c listed = page_length (settled c) c.sheet (settled_limited c) listed (state_in Period c)

pub longest_priced : LongestPriced 935
longest_priced = record { listed = any_case; read = λ view text r read. any_case (case_of view r) (read_listed text r read) }
