use Rattle.std.proofs.Common.{rules}
use Rattle.text_buffer.proofs.Chained.{chained}
use Rattle.sheet_writer.proofs.entries.OfferEntryText.put_on.Goals as goal

pub returns : goal.returns
returns c = search (rules, chained)
