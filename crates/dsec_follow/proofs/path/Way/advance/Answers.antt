use Rattle.std.proofs.Common.{◌≡◌, Some, sym, ap, ◌∙◌}
use Rattle.std.specs.Option.{option_map}
use Rattle.dsec_name.specs.NameRefs.{name_view}
use Rattle.dsec_spec.specs.Groups.{Group}
use Rattle.dsec_spec.specs.Names.{Labels}
use Rattle.dsec_nodes.specs.Judging.{Judged}
use Rattle.dsec_alias.specs.Candidates.{Candidate, only_target}
use Rattle.dsec_alias.specs.Following.{is_alias, next_alias, turn_to}
use Rattle.dsec_found.specs.Outcomes.{state_view}
use Rattle.dsec_nodes.specs.Aliases.{candidate_of}
use Rattle.dsec_follow.specs.Replies.{reply_view}
use Rattle.dsec_follow.specs.Turns.{turn_told, turn_view}
use Rattle.dsec_follow.specs.Ways.{way_view}
use Rattle.dsec_follow.proofs.WaySteps.{ends_here, ends_without, fails_here, goes_as_told, stands_at}
use Rattle.dsec_follow.proofs.path.Way.advance.Goals as goal

pub returns-in_default : goal.returns-in_default
returns-in_default g c =
    c.ends.ensures ∙ ends_here (reply_view c.args.reply.now) (way_view c.args.self) (sym c.next_alias.ensures ∙ c.in_default.is)

pub returns-in_default-only_target : goal.returns-in_default-only_target
returns-in_default-only_target g c =
    let reply = reply_view c.args.reply.now in
    let way = way_view c.args.self in
    let x = c.index-reply-index.result in
    let next : next_alias reply way.name ≡ Some c.in-Some.index = sym c.next_alias.ensures ∙ c.in-Some.is in
    c.ends-in_default-only_target.ensures
    ∙ ends_without reply way c.in-Some.index (candidate_of x) next
    (stands_at (λ (y : Candidate). is_alias reply way.name y.group) c.args.reply.now.answers.now c.in-Some.index x next c.index-reply-index.is)
    (ap (λ (j : Judged). only_target j.group.records) c.index-reply-index.is
    ∙ (sym (ap (λ (group : Group). only_target group.records) c.group.ensures) ∙ (sym c.only_target.ensures ∙ ap (option_map name_view) c.in_default-only_target.is)))

pub returns-in-GoesTo : goal.returns-in-GoesTo
returns-in-GoesTo g c =
    let reply = reply_view c.args.reply.now in
    let way = way_view c.args.self in
    let x = c.index-reply-index.result in
    let next : next_alias reply way.name ≡ Some c.in-Some.index = sym c.next_alias.ensures ∙ c.in-Some.is in
    let reads : only_target x.group.records ≡ Some c.in_ok-target.target =
    ap (λ (j : Judged). only_target j.group.records) c.index-reply-index.is
    ∙ (sym (ap (λ (group : Group). only_target group.records) c.group.ensures)
    ∙ (sym c.only_target.ensures ∙ (ap (option_map name_view) c.in-Some-only_target.is ∙ ap (λ (n : Labels). Some n) (sym c.in_ok-target.ensures)))) in
    goes_as_told reply way c.in-Some.index (candidate_of x) next
    (stands_at (λ (y : Candidate). is_alias reply way.name y.group) c.args.reply.now.answers.now c.in-Some.index x next c.index-reply-index.is)
    c.in_ok-target.target reads c.in-GoesTo.target (state_view c.in-GoesTo.state) c.in-GoesTo.used
    (ap (λ (j : Judged). turn_told (turn_to reply way.name (candidate_of j) c.in_ok-target.target)) c.index-reply-index.is
    ∙ (sym c.in_ok-target-2.ensures ∙ ap turn_view c.in-GoesTo.is))
    c.onto.result c.onto.ensures

pub returns-in-FailsAt : goal.returns-in-FailsAt
returns-in-FailsAt g c =
    let reply = reply_view c.args.reply.now in
    let way = way_view c.args.self in
    let x = c.index-reply-index.result in
    let next : next_alias reply way.name ≡ Some c.in-Some.index = sym c.next_alias.ensures ∙ c.in-Some.is in
    let reads : only_target x.group.records ≡ Some c.in_ok-target.target =
    ap (λ (j : Judged). only_target j.group.records) c.index-reply-index.is
    ∙ (sym (ap (λ (group : Group). only_target group.records) c.group.ensures)
    ∙ (sym c.only_target.ensures ∙ (ap (option_map name_view) c.in-Some-only_target.is ∙ ap (λ (n : Labels). Some n) (sym c.in_ok-target.ensures)))) in
    c.bogus.ensures
    ∙ fails_here reply way c.in-Some.index (candidate_of x) next
    (stands_at (λ (y : Candidate). is_alias reply way.name y.group) c.args.reply.now.answers.now c.in-Some.index x next c.index-reply-index.is)
    c.in_ok-target.target reads c.in-FailsAt.reached c.in-FailsAt.cause
    (ap (λ (j : Judged). turn_told (turn_to reply way.name (candidate_of j) c.in_ok-target.target)) c.index-reply-index.is
    ∙ (sym c.in_ok-target-2.ensures ∙ ap turn_view c.in-FailsAt.is))
