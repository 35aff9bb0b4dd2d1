-- Reading and writing undo each other, so that neither brings two things to one.
use Rattle.std.proofs.Common.{sym, ap, ◌∙◌}
use Rattle.sheet_text.specs.Reading.{reading}
use Rattle.sheet_text.proofs.Entering.{ok_same}
use Rattle.sheet_writer.specs.Laws.{NoTwoTextsHaveOneSheet, NoTwoSheetsHaveOneText}
use Rattle.sheet_writer.proofs.TextBack.{read_is_written_back}
use Rattle.sheet_writer.proofs.TextRead.{written_is_read_back}

pub no_two_texts : NoTwoTextsHaveOneSheet
no_two_texts a b r ea eb = sym (read_is_written_back a r ea) ∙ read_is_written_back b r eb

pub no_two_sheets : NoTwoSheetsHaveOneText
no_two_sheets q r hq hr e = ok_same (sym (written_is_read_back q hq) ∙ ap reading e ∙ written_is_read_back r hr)
