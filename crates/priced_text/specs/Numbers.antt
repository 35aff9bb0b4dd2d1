-- The numbers of refusals.
use Rattle.std.specs.Prelude.{ℕ}
use Rattle.sheet_text.specs.Faults.{number_of}
use Rattle.priced_text.specs.declared.refusal.PricingRefusal.{PricingRefusal}
use Rattle.priced_text.specs.declared.refusal.PricingRefusal.TheVariants.{Text, OutputShort}

abbrev pub refusal_number : PricingRefusal → ℕ
refusal_number (Text fault) = number_of fault.fault.kind
refusal_number OutputShort = 15
