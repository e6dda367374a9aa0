-- What a call answers and leaves by a table of replies is what the recursion does.
use Rattle.std.proofs.Common.{◌≡◌, ℕ, List, Option, Some, None, IfSome, Result, Ok, Err, inl, inr, refl, sym, ap, ◌∙◌, subst}
use Rattle.dsec_spec.specs.Outside.{Table}
use Rattle.dsec_nodes.specs.World.{World, Replies, moment}
use Rattle.dsec_nodes.specs.Machine.{Question as Asked}
use Rattle.dsec_nodes.specs.Outcomes.{Outcome}
use Rattle.dsec_nodes.specs.Alone.{alone}
use Rattle.dsec_node.specs.Caches.{Held}
use Rattle.dsec_rewrite.specs.declared.error.RewriteError.{RewriteError}
use Rattle.dsec_cut.specs.Ended.{Both}
use Rattle.dsec_cut.specs.Cuts.{left_as, to_rewrite_alone}
use Rattle.dsec_found.specs.declared.error.Error.{Error}
use Rattle.dsec_found.specs.declared.error.Error.TheVariants.{FormError, ParseError, NoMemory, InplaceError, OctetsConversion, PushError, PushNameError, ReadError, ShortMessage}
use Rattle.dsec_found.specs.Errors.{answer_of}
use Rattle.dsec_context.specs.Verdicts.{Verdict}
use Rattle.dsec_context.specs.Outside.{Outside, replies_of, HoldsTable}
use Rattle.dsec_context.specs.Calls.{IsAnswer, Says, AgreesWith}
use Rattle.dsec_context.specs.Judgements.{Judgement, GroupsAgree}
use Rattle.dsec_context.specs.Leaving.{Handed, by_rewriting, handed_on, handed_alone, IsHanded}
use Rattle.dsec_context.specs.Handling.{outcome_in, IsByTable}

-- an answer without its questions is handed on as the answer is
answer_in : (message : List ℕ) (x : Result Verdict Error) (r : Result (List ℕ) RewriteError)
    → outcome_in (by_rewriting message x r).0 ≡ (by_rewriting message (outcome_in x) r).0
answer_in message x (Ok made) = refl
answer_in message x (Err e) = refl

left_in : (message : List ℕ) (x : Result Verdict Error) (r : Result (List ℕ) RewriteError)
    → (by_rewriting message x r).1 ≡ (by_rewriting message (outcome_in x) r).1
left_in message x (Ok made) = refl
left_in message x (Err e) = refl

-- the same answer of judging, and the same groups, are handed on the same way
same_handed : (w : World) (most : ℕ) (replies : Replies) (message left : List ℕ) (judged answer : Result Verdict Error) (groups : Option Both)
    → outcome_in judged ≡ answer_of (alone w most replies message) → groups ≡ to_rewrite_alone w most replies message
    → IsHanded message (handed_on (moment w) message judged groups) answer left
    → IsHanded message (handed_alone w most replies message) (outcome_in answer) left
same_handed w most replies message left judged answer groups e g (inr none) = inr (ap outcome_in none.0, none.1)
same_handed w most replies message left judged answer groups e g (inl same) =
    let t = moment w in
    let its : handed_on t message (outcome_in judged) groups ≡ handed_alone w most replies message =
    ap (λ (x : Result Outcome Error). handed_on t message x groups) e ∙ ap (handed_on t message (answer_of (alone w most replies message))) g in
    inl (
      ap outcome_in same.0 ∙ (answer_in message judged (left_as t message groups) ∙ ap (λ (h : Handed Outcome). h.0) its),
      same.1 ∙ (left_in message judged (left_as t message groups) ∙ ap (λ (h : Handed Outcome). h.1) its),
    )

-- where there was no memory, so it is with the call
lost_handed : (w : World) (most : ℕ) (replies : Replies) (message left : List ℕ) (answer : Result Verdict Error) (groups : Option Both)
    → groups ≡ None → IsHanded message (handed_on (moment w) message (Err NoMemory) groups) answer left
    → IsHanded message (handed_alone w most replies message) (outcome_in answer) left
lost_handed w most replies message left answer groups g h = by (subst (λ (x : Option Both). IsHanded message (handed_on (moment w) message (Err NoMemory) x) answer left) g h)
  where
    by : IsHanded {X = Verdict} message (handed_on (moment w) message (Err NoMemory) None) answer left → IsHanded message (handed_alone w most replies message) (outcome_in answer) left
    by (inl same) = inr (ap outcome_in same.0, same.1)
    by (inr none) = inr (ap outcome_in none.0, none.1)

-- Where judging agrees with a table, so does the call
pub by_table : (w : World) (most : ℕ) (replies : Replies) (message left : List ℕ) (asked : List Asked) (after : Outside) (j : Judgement) (answer : Result Verdict Error)
    → IsAnswer w most message asked j.answer → AgreesWith w most message after j.answer replies → GroupsAgree w most replies message j
    → IsHanded message (handed_on (moment w) message j.answer j.groups) answer left → IsByTable w most message after answer left replies
by_table w most replies message left asked after j answer so agrees groups handed = record { handed = by j.answer so agrees.says groups handed; holds = agrees.holds }
  where
    Goal : Type 0
    Goal = IsHanded message (handed_alone w most replies message) (outcome_in answer) left

    by : (x : Result Verdict Error) → IsAnswer w most message asked x → Says (alone w most replies message) x
        → GroupsAgree w most replies message (record { answer = x; groups = j.groups })
        → IsHanded message (handed_on (moment w) message x j.groups) answer left → Goal
    by (Ok v) s a g h = same_handed w most replies message left (Ok v) answer j.groups (sym (ap answer_of a)) g h
    by (Err FormError) s a g h = same_handed w most replies message left (Err FormError) answer j.groups (sym a) g h
    by (Err ParseError) s a g h = same_handed w most replies message left (Err ParseError) answer j.groups (sym a) (g ∙ sym (rw s.0 refl)) h
    by (Err NoMemory) s a g h = lost_handed w most replies message left answer j.groups g h
    by (Err (InplaceError e)) s a g h = absurd s
    by (Err OctetsConversion) s a g h = absurd s
    by (Err PushError) s a g h = absurd s
    by (Err PushNameError) s a g h = absurd s
    by (Err ReadError) s a g h = absurd s
    by (Err ShortMessage) s a g h = absurd s

-- where the upstream tells its table, and all that was held is of it
pub told : (w : World) (most : ℕ) (message left : List ℕ) (asked : List Asked) (table : Option Table) (held : Option Held) (after : Outside) (j : Judgement) (answer : Result Verdict Error)
    → IsAnswer w most message asked j.answer
    → IfSome table (λ t. HoldsTable w (replies_of t) held → AgreesWith w most message after j.answer (replies_of t))
    → IfSome table (λ t. HoldsTable w (replies_of t) held → GroupsAgree w most (replies_of t) message j)
    → IsHanded message (handed_on (moment w) message j.answer j.groups) answer left
    → IfSome table (λ t. HoldsTable w (replies_of t) held → IsByTable w most message after answer left (replies_of t))
told w most message left asked None held after j answer so agrees groups handed = tt
told w most message left asked (Some t) held after j answer so agrees groups handed = λ h.
    by_table w most (replies_of t) message left asked after j answer so (agrees h) (groups h) handed
