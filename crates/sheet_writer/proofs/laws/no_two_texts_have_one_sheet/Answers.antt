use Rattle.sheet_writer.proofs.RoundTrip.{no_two_texts}
use Rattle.sheet_writer.proofs.laws.no_two_texts_have_one_sheet.Goals as goal

pub returns : goal.returns
returns c = no_two_texts
