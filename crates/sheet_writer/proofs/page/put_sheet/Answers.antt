-- The parts of a sheet are put one behind the other.
use Rattle.std.proofs.Common.{refl, rules}
use Rattle.text_buffer.proofs.Joining.{both_put, first_refused, put_whole}
use Rattle.sheet_writer.specs.Rendered.{rendered}
use Rattle.sheet_writer.proofs.page.put_sheet.Goals as goal

pub returns-in_err-put_list-2 : goal.returns-in_err-put_list-2
unfolding rendered
returns-in_err-put_list-2 c =
    both_put 6556 _ _ refl c.in_ok-put_head.ensures
    (both_put 6556 _ _ refl (rw c.as_slice.ensures.value at c.in_ok-put_list.ensures)
    (first_refused 6556 _ _ refl (search rules) (rw c.as_slice-2.ensures.value at c.in_err-put_list-2.ensures)))

pub returns-in_err-put_list-3 : goal.returns-in_err-put_list-3
unfolding rendered
returns-in_err-put_list-3 c =
    both_put 6556 _ _ refl c.in_ok-put_head.ensures
    (both_put 6556 _ _ refl (rw c.as_slice.ensures.value at c.in_ok-put_list.ensures)
    (both_put 6556 _ _ refl (rw c.as_slice-2.ensures.value at c.in_ok-put_list-2.ensures)
    (first_refused 6556 _ _ refl (search rules) (rw c.as_slice-3.ensures.value at c.in_err-put_list-3.ensures))))

pub returns : goal.returns
unfolding rendered
returns c =
    both_put 6556 _ _ refl c.in_ok-put_head.ensures
    (both_put 6556 _ _ refl (rw c.as_slice.ensures.value at c.in_ok-put_list.ensures)
    (both_put 6556 _ _ refl (rw c.as_slice-2.ensures.value at c.in_ok-put_list-2.ensures)
    (both_put 6556 _ _ refl (rw c.as_slice-3.ensures.value at c.in_ok-put_list-3.ensures)
    (put_whole 6556 c.put.ensures.fits c.put.ensures.after))))
