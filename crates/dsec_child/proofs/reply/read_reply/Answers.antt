use Rattle.std.proofs.Common.{◌≡◌, ℕ, None, Option, Vec, Global, sym, ap, ◌∙◌, subst}
use Rattle.std.specs.Bool.{OnFalse}
use Rattle.std.specs.Option.{option_map}
use Rattle.std.proofs.lemmas.Bool.{false≢true}
use Rattle.dsec_wire.specs.Errors.{wants_memory}
use Rattle.dsec_group.specs.Reading.{groups_and_place}
use Rattle.dsec_nodes.specs.Replies.{read_reply as reply_of}
use Rattle.dsec_child.proofs.ReplySteps.{by_groups, too_short, without_groups}
use Rattle.dsec_child.proofs.reply.read_reply.Goals as goal

pub returns-in_default-from_octets : goal.returns-in_default-from_octets
returns-in_default-from_octets c =
    too_short c.in-Some.octets.items (λ l. absurd (false≢true (c.in_default-from_octets.ensures.long.1 l)))
    ∙ sym (ap (λ (o : Option (Vec ℕ Global)). reply_of (option_map (λ (v : Vec ℕ Global). v.items) o)) c.in-Some.is)

pub returns-in-Err-ParseError : goal.returns-in-Err-ParseError
returns-in-Err-ParseError c =
    let none = subst (λ e. OnFalse (wants_memory e) (groups_and_place c.in-Ok.message ≡ None)) c.in-Err-ParseError.field-0-is c.in-Err-ParseError.ensures in
    without_groups c.in-Some.octets.items (ap groups_and_place (sym c.in-Ok.ensures.value) ∙ none)
    ∙ sym (ap (λ (o : Option (Vec ℕ Global)). reply_of (option_map (λ (v : Vec ℕ Global). v.items) o)) c.in-Some.is)

pub returns-in-Ok-read_groups : goal.returns-in-Ok-read_groups
returns-in-Ok-read_groups c =
    by_groups c.in-Some.octets.items (c.in-Ok-read_groups.sections, c.in-Ok-read_groups.field-0-1) (ap groups_and_place (sym c.in-Ok.ensures.value) ∙ c.in-Ok-read_groups.ensures)
    ∙ sym (ap (λ (o : Option (Vec ℕ Global)). reply_of (option_map (λ (v : Vec ℕ Global). v.items) o)) c.in-Some.is)
