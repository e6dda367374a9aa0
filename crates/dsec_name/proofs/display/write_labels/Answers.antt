use Rattle.std.proofs.Common.{◌≡◌, ◌∙◌, ◌++◌, [], refl, sym, ap, subst, List, ℕ, take, drop}
use Rattle.std.proofs.Output.{has_written_append, has_written_of_eq, writes_in_calls_nil}
use Rattle.std.proofs.lemmas.List.{take_min, drop_min, append-nil, nil_from_length}
use Rattle.std.specs.List.{flat_map}
use Rattle.dsec_name.specs.Keys.{labels_of}
use Rattle.dsec_name.specs.NameDisplay.{label_text}
use Rattle.dsec_name.proofs.NameShown.{shown_step}
use Rattle.dsec_name.proofs.display.write_labels.Goals as goal

pub loop-length-init : goal.loop-length-init
loop-length-init g c =
    λ p. record { front = []; wrote = record { wrote = writes_in_calls_nil g.W.Write.write_str_gives c.args.f.now.writer; plain = p }; whole = refl }

pub loop-length-preserved : goal.loop-length-preserved
loop-length-preserved g c =
    λ p.
    let k = c.in-Some.field-0-0.now in
    let after = c.in-Some.after.now in
    let s = c.loop-length.invariant p in
    let label : c.split_at.result.0.now ≡ take k after = c.split_at.ensures.front ∙ rw (c.min.ensures, c.from.ensures) (take_min k after) in
    let others : c.split_at.result.1.now ≡ drop k after = c.split_at.ensures.back ∙ rw (c.min.ensures, c.from.ensures) (drop_min k after) in
    let whole = subst (λ (x : List ℕ). s.front ++ flat_map label_text (labels_of x) ≡ flat_map label_text (labels_of c.args.octets.now)) c.in-Some.ensures.cases.0 s.whole in
    record {
      front = s.front ++ label_text (take k after);
      wrote = has_written_append _ _ _ _ _ _ s.wrote (has_written_of_eq _ _ _ _ _ (ap label_text label) (c.in_ok-write_label.ensures s.wrote.plain refl));
      whole = rw others (shown_step s.front k after (labels_of c.args.octets.now) whole);
    }

pub returns : goal.returns
returns g c =
    λ p o.
    let s = c.loop-length.invariant p in
    let end = nil_from_length c.loop-length.rest.now c.in_default.ensures.cases in
    let whole : s.front ≡ flat_map label_text (labels_of c.args.octets.now) =
    sym (append-nil s.front) ∙ (ap (λ (x : List ℕ). s.front ++ flat_map label_text (labels_of x)) (sym end) ∙ s.whole) in
    has_written_of_eq _ _ _ _ _ whole s.wrote
