use Rattle.std.proofs.Common.{[], sym, append_assoc}
use Rattle.std.proofs.lemmas.Result.{err_from_is_err_and, on_ok_weaker}
use Rattle.std.specs.List.{flat_map}
use Rattle.dsec_outside.proofs.Pieces.{more_went}
use Rattle.dsec_answer.specs.Texts.{group_lines, used_groups_lines}
use Rattle.dsec_answer.proofs.PieceLaws.{first_sent, front_wider, rest_front}
use Rattle.dsec_answer.proofs.ShortLaws.{joined, short_next, short_wider}
use Rattle.dsec_answer.proofs.sending.send_shown.Goals as goal

pub returns-in_err-send_groups-clause-front : goal.returns-in_err-send_groups-clause-front
returns-in_err-send_groups-clause-front g c =
    let lines = flat_map (λ j. group_lines c.args.index j) c.args.judged.now in
    let others = used_groups_lines c.args.index [] c.args.used.now in
    front_wider _ _ _ others _ (sym (append_assoc c.args.gathered.now.items lines others)) c.in_err-send_groups.ensures.front

pub returns-clause-sent : goal.returns-clause-sent
returns-clause-sent g c =
    on_ok_weaker c.send_used_groups.result
    (more_went _ _ _ _ _ _ (first_sent _ _ c.args.gathered.now.items _ (used_groups_lines c.args.index [] c.args.used.now) _ c.in_ok-send_groups.ensures.sent))
    c.send_used_groups.ensures.sent

pub returns-clause-front : goal.returns-clause-front
returns-clause-front g c =
    rest_front _ _ _ _ _ (first_sent _ _ c.args.gathered.now.items _ (used_groups_lines c.args.index [] c.args.used.now) _ c.in_ok-send_groups.ensures.sent)
    c.send_used_groups.ensures.front

pub returns-in_err-send_groups-clause-memory : goal.returns-in_err-send_groups-clause-memory
returns-in_err-send_groups-clause-memory g c =
    let p = err_from_is_err_and c.from_residual.result c.from_residual.ensures.1 in
    let lines = flat_map (λ j. group_lines c.args.index j) c.args.judged.now in
    let others = used_groups_lines c.args.index [] c.args.used.now in
    rw (p.1, p.2)
    (λ wanted. short_wider _ _ _ others _ (sym (append_assoc c.args.gathered.now.items lines others)) (c.in_err-send_groups.ensures.memory wanted))

pub returns-clause-memory : goal.returns-clause-memory
returns-clause-memory g c = λ wanted.
    short_next _ _ _ _ c.send_groups.new.gathered.items _ c.in_ok-send_groups.ensures.back.1
    (first_sent _ _ c.args.gathered.now.items _ (used_groups_lines c.args.index [] c.args.used.now) _ c.in_ok-send_groups.ensures.sent)
    (c.send_used_groups.ensures.memory wanted)

pub returns-clause-back : goal.returns-clause-back
returns-clause-back g c =
    on_ok_weaker c.send_used_groups.result (joined _ _ _ _ _ _ c.in_ok-send_groups.ensures.back) c.send_used_groups.ensures.back
