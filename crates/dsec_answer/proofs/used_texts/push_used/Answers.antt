use Rattle.dsec_answer.proofs.UsedLines.{line_has_word}
use Rattle.dsec_answer.proofs.used_texts.push_used.Goals as goal

pub slice_bounds-extend_from_slice-count : goal.slice_bounds-extend_from_slice-count
slice_bounds-extend_from_slice-count c =
    line_has_word c.deref.result.now c.push_link.new.out.items c.new-line.result.items c.args.index c.args.link.now c.deref.ensures.value c.in_ok-push_link.ensures.ok

pub slice_bounds-extend_from_slice-start : goal.slice_bounds-extend_from_slice-start
slice_bounds-extend_from_slice-start c =
    line_has_word c.deref.result.now c.push_link.new.out.items c.new-line.result.items c.args.index c.args.link.now c.deref.ensures.value c.in_ok-push_link.ensures.ok
