-- The message that a call leaves: as it came, or rewritten by its own groups.
use Rattle.std.proofs.Common.{◌≡◌, ◌⊎◌, ℕ, Bool, true, false, cond, List, map, Option, Some, None, IfSome, Result, Ok, Err, inl, inr, refl, sym, ap, ◌∙◌, subst}
use Rattle.std.specs.Prelude.{◌&&◌}
use Rattle.std.specs.Bool.{OnFalse}
use Rattle.dsec_spec.specs.Groups.{Group}
use Rattle.dsec_nodes.specs.World.{World, moment}
use Rattle.dsec_nodes.specs.Nodes.{Node}
use Rattle.dsec_nodes.specs.Machine.{Question as Asked}
use Rattle.dsec_nodes.specs.Judging.{Judged}
use Rattle.dsec_course.specs.Course.{Course}
use Rattle.dsec_course.specs.Hearing.{first_run, after_heard}
use Rattle.dsec_course.specs.Justified.{AreRead}
use Rattle.dsec_rewrite.specs.Cutting.{Bounded}
use Rattle.dsec_rewrite.specs.Rewriting.{rewriting}
use Rattle.dsec_rewrite.specs.Errors.{wants_memory}
use Rattle.dsec_rewrite.specs.declared.error.RewriteError.{RewriteError}
use Rattle.dsec_rewrite.specs.declared.error.RewriteError.TheVariants as refusals
use Rattle.dsec_cut.specs.Ended.{Both, AreJudged, is_whole, both_in}
use Rattle.dsec_cut.specs.Cuts.{bounded_at, are_due, left_as, to_rewrite}
use Rattle.dsec_found.specs.declared.error.Error.{Error}
use Rattle.dsec_found.specs.declared.error.Error.TheVariants.{FormError, ParseError, NoMemory, InplaceError, OctetsConversion, PushError, PushNameError, ReadError, ShortMessage}
use Rattle.dsec_node.specs.Caches.{Lasting}
use Rattle.dsec_context.specs.Verdicts.{Verdict}
use Rattle.dsec_context.specs.Judgements.{HandsOn}
use Rattle.dsec_context.specs.Leaving.{by_rewriting, error_by, handed_on, IsHanded}
use Rattle.dsec_context.specs.Handling.{OnEnd, IsRewrittenBy, IsRewritten, LeavesWith}
use Rattle.dsec_context.proofs.ComingLaws.{its_groups}

-- why a message isn't rewritten is handed on in place of an answer, with the message as it came
in_place : {X : Type 0} (message left : List ℕ) (answer : Result X Error) (rewritten : Result (List ℕ) RewriteError) (e : RewriteError) → rewritten ≡ Err e
    → left ≡ message → IsHanded message (by_rewriting message answer rewritten) (Err (error_by e)) left
in_place message left answer rewritten e h same =
    inl (sym (ap (λ (r : Result (List ℕ) RewriteError). (by_rewriting message answer r).0) h), same ∙ sym (ap (λ (r : Result (List ℕ) RewriteError). (by_rewriting message answer r).1) h))

pub refusal_handed : {X : Type 0} (t : ℕ) (message left : List ℕ) (answer : Result X Error) (groups : Option Both) (e : RewriteError)
    → OnFalse (wants_memory e) (left_as t message groups ≡ Err e) → left ≡ message → IsHanded message (handed_on t message answer groups) (Err (error_by e)) left
refusal_handed t message left answer groups refusals.ParseError h same = in_place message left answer (left_as t message groups) refusals.ParseError h same
refusal_handed t message left answer groups refusals.PushError h same = in_place message left answer (left_as t message groups) refusals.PushError h same
refusal_handed t message left answer groups refusals.NoMemory h same = inr (refl, same)

-- and it is no end of judging
pub refusal_no_end : (P : Type 0) (e : RewriteError) → OnEnd (Err (error_by e)) P
refusal_no_end P refusals.ParseError = tt
refusal_no_end P refusals.PushError = tt
refusal_no_end P refusals.NoMemory = tt

-- the judged groups by which a message is rewritten are due
where_due : (t : ℕ) (c : Course) (both : Both) → Some both ≡ to_rewrite t c → are_due t both ≡ true
where_due t c both = by (is_whole c) (are_due t (both_in c)) refl
  where
    by : (x y : Bool) → are_due t (both_in c) ≡ y → Some both ≡ cond (x && y) (Some (both_in c)) None → are_due t both ≡ true
    by true true f e = let same : both ≡ both_in c = cc in ap (are_due t) same ∙ f
    by true false f e = absurd cc
    by false y f e = absurd cc

-- and so are those that a call hands on
pub are_due_so : (w : World) (most : ℕ) (message : List ℕ) (held : Node → Type 0) (first last : Option Lasting) (asked : List Asked) (puts : List Node) (judged : Result Verdict Error) (groups : Option Both)
    → HandsOn w most message held first last asked puts judged groups → IfSome groups (λ both. are_due (moment w) both ≡ true)
are_due_so w most message held first last asked puts judged None h = tt
are_due_so w most message held first last asked puts (Ok v) (Some both) h = where_due (moment w) (after_heard w (first_run w h.course) h.inputs).course both h.groups_are
are_due_so w most message held first last asked puts (Err FormError) (Some both) h = where_due (moment w) (after_heard w (first_run w h.course) h.inputs).course both h.groups_are
are_due_so w most message held first last asked puts (Err ParseError) (Some both) h = absurd cc
are_due_so w most message held first last asked puts (Err NoMemory) (Some both) h = absurd cc
are_due_so w most message held first last asked puts (Err (InplaceError e)) (Some both) h = absurd cc
are_due_so w most message held first last asked puts (Err OctetsConversion) (Some both) h = absurd cc
are_due_so w most message held first last asked puts (Err PushError) (Some both) h = absurd cc
are_due_so w most message held first last asked puts (Err PushNameError) (Some both) h = absurd cc
are_due_so w most message held first last asked puts (Err ReadError) (Some both) h = absurd cc
are_due_so w most message held first last asked puts (Err ShortMessage) (Some both) h = absurd cc

-- a message that was rewritten by its judged groups is one that was rewritten by its groups
rewritten_so : (w : World) (most t : ℕ) (message left : List ℕ) (both : Both) → AreJudged w most message both → are_due t both ≡ true
    → IsRewrittenBy t message both left → IsRewritten w.anchors most message left
rewritten_so w most t message left both j due made = record {
  questions = j.questions;
  answers = map (bounded_at t) both.0;
  authorities = map (bounded_at t) both.1;
  groups = subst (λ (gs : List Group). AreRead w.anchors most message j.questions gs (map (λ (b : Bounded). b.group) (map (bounded_at t) both.1))) (sym (its_groups t both.0))
      (subst (λ (gs : List Group). AreRead w.anchors most message j.questions (map (λ (x : Judged). x.group) both.0) gs) (sym (its_groups t both.1)) j.read);
  due = due;
  made = made;
}

-- an error that judging doesn't go on to a message's end with
abbrev pub IsOther : Error → Type 0
IsOther FormError = ⊥
IsOther _ = Unit {0}

none_then : (w : World) (most : ℕ) (message : List ℕ) (held : Node → Type 0) (first last : Option Lasting) (asked : List Asked) (puts : List Node) (e : Error) (groups : Option Both) → IsOther e
    → HandsOn w most message held first last asked puts (Err e) groups → groups ≡ None
none_then w most message held first last asked puts FormError groups o h = absurd o
none_then w most message held first last asked puts ParseError groups o h = h
none_then w most message held first last asked puts NoMemory groups o h = h
none_then w most message held first last asked puts (InplaceError e) groups o h = h
none_then w most message held first last asked puts OctetsConversion groups o h = h
none_then w most message held first last asked puts PushError groups o h = h
none_then w most message held first last asked puts PushNameError groups o h = h
none_then w most message held first last asked puts ReadError groups o h = h
none_then w most message held first last asked puts ShortMessage groups o h = h

-- after such an error the message is as it came
stays : (w : World) (most t : ℕ) (message left : List ℕ) (held : Node → Type 0) (first last : Option Lasting) (asked : List Asked) (puts : List Node) (judged : Result Verdict Error) (groups : Option Both) (e : Error)
    → IsOther e → HandsOn w most message held first last asked puts judged groups → IsHanded message (handed_on t message judged groups) (Err e) left → left ≡ message
stays w most t message left held first last asked puts judged groups e o h (inr none) = none.1
stays w most t message left held first last asked puts judged None e o h (inl same) = same.1
stays w most t message left held first last asked puts judged (Some both) e o h (inl same) = by (rewriting message (map (bounded_at t) both.0) (map (bounded_at t) both.1)) same.0 same.1
  where
    none_there : Some both ≡ None → ⊥
    none_there x = cc

    by : (r : Result (List ℕ) RewriteError) → Err e ≡ (by_rewriting message judged r).0 → left ≡ (by_rewriting message judged r).1 → left ≡ message
    by (Ok made) a l = absurd (none_there (none_then w most message held first last asked puts e (Some both) o (subst (λ (x : Result Verdict Error). HandsOn w most message held first last asked puts x (Some both)) (sym a) h)))
    by (Err x) a l = l

-- What a call leaves: the message as it came, or rewritten by its own groups
pub leaves : (w : World) (most : ℕ) (message left : List ℕ) (held : Node → Type 0) (first last : Option Lasting) (asked : List Asked) (puts : List Node) (judged answer : Result Verdict Error) (groups : Option Both)
    → HandsOn w most message held first last asked puts judged groups → IfSome groups (λ both. AreJudged w most message both)
    → IsHanded message (handed_on (moment w) message judged groups) answer left
    → OnEnd answer (IfSome groups (λ both. IsRewrittenBy (moment w) message both left)) → LeavesWith w.anchors most answer message left
leaves w most message left held first last asked puts judged answer groups h sound handed made = by answer handed made
  where
    at_end : (x : Result Verdict Error) (g : Option Both) → IfSome g (λ both. AreJudged w most message both) → IfSome g (λ both. are_due (moment w) both ≡ true)
        → IsHanded message (handed_on (moment w) message judged g) x left → IfSome g (λ both. IsRewrittenBy (moment w) message both left)
        → (left ≡ message) ⊎ IsRewritten w.anchors most message left
    at_end x None s d (inl same) m = inl same.1
    at_end x None s d (inr none) m = inl none.1
    at_end x (Some both) s d a m = inr (rewritten_so w most (moment w) message left both s d m)

    by : (x : Result Verdict Error) → IsHanded message (handed_on (moment w) message judged groups) x left
        → OnEnd x (IfSome groups (λ both. IsRewrittenBy (moment w) message both left)) → LeavesWith w.anchors most x message left
    by (Ok v) a m = at_end (Ok v) groups sound (are_due_so w most message held first last asked puts judged groups h) a m
    by (Err FormError) a m = at_end (Err FormError) groups sound (are_due_so w most message held first last asked puts judged groups h) a m
    by (Err ParseError) a m = stays w most (moment w) message left held first last asked puts judged groups ParseError tt h a
    by (Err NoMemory) a m = stays w most (moment w) message left held first last asked puts judged groups NoMemory tt h a
    by (Err (InplaceError e)) a m = stays w most (moment w) message left held first last asked puts judged groups (InplaceError e) tt h a
    by (Err OctetsConversion) a m = stays w most (moment w) message left held first last asked puts judged groups OctetsConversion tt h a
    by (Err PushError) a m = stays w most (moment w) message left held first last asked puts judged groups PushError tt h a
    by (Err PushNameError) a m = stays w most (moment w) message left held first last asked puts judged groups PushNameError tt h a
    by (Err ReadError) a m = stays w most (moment w) message left held first last asked puts judged groups ReadError tt h a
    by (Err ShortMessage) a m = stays w most (moment w) message left held first last asked puts judged groups ShortMessage tt h a
