-- What comes of a call: what judging the message came to, or that the message can't be rewritten, or want of memory.
use Rattle.std.proofs.Common.{◌≡◌, ℕ, List, [], ◌∷◌, map, Option, Some, None, IfSome, IfOk, Result, Ok, Err, inl, inr, refl, sym, ap, ◌∙◌, subst}
use Rattle.dsec_spec.specs.Outside.{Table}
use Rattle.dsec_spec.specs.Records.{Record}
use Rattle.dsec_spec.specs.Messages.{Question, questions_of}
use Rattle.dsec_spec.specs.Groups.{Group}
use Rattle.dsec_nodes.specs.World.{World}
use Rattle.dsec_nodes.specs.Machine.{Question as Asked}
use Rattle.dsec_nodes.specs.Judging.{Judged}
use Rattle.dsec_nodes.specs.Alone.{sections_of}
use Rattle.dsec_plain.specs.Coming.{IsReadable, HasNotOneQuestion}
use Rattle.dsec_course.specs.Justified.{AreRead}
use Rattle.dsec_rewrite.specs.Cutting.{Bounded}
use Rattle.dsec_rewrite.specs.Rewriting.{rewriting, sent}
use Rattle.dsec_rewrite.specs.declared.error.RewriteError.{RewriteError}
use Rattle.dsec_rewrite.specs.declared.error.RewriteError.TheVariants as refusals
use Rattle.dsec_cut.specs.Ended.{Both, AreJudged}
use Rattle.dsec_cut.specs.Cuts.{bounded_at}
use Rattle.dsec_found.specs.declared.error.Error.{Error}
use Rattle.dsec_found.specs.declared.error.Error.TheVariants.{FormError, ParseError, NoMemory, InplaceError, OctetsConversion, PushError, PushNameError, ReadError, ShortMessage}
use Rattle.dsec_context.specs.Verdicts.{Verdict}
use Rattle.dsec_context.specs.Calls.{IsAnswer, OkOrNoMemory, RefusedOrNoMemory, RefusedOrBogus}
use Rattle.dsec_context.proofs.ReadLaws.{asks_one}
use Rattle.dsec_context.specs.Writing.{uncut, written_out, CannotBeRewritten}
use Rattle.dsec_context.specs.Leaving.{error_by, handed_on, by_rewriting, IsHanded}
use Rattle.dsec_context.specs.Handling.{SaysOf, SaysCannot, IsVerdict, IsRefusal}
use Rattle.dsec_context.proofs.WritingLaws.{too_long, kept_unread, sections_unread}

-- an answer is that of judging; or it says why the message can't be rewritten; or there was no memory
pub data Comes (anchors : List Record) (most : ℕ) (message : List ℕ) (judged answer : Result Verdict Error) : Type 0 where
  as_judged : answer ≡ judged → Comes anchors most message judged answer
  cannot : (e : RewriteError) → answer ≡ Err (error_by e) → CannotBeRewritten anchors most message e → Comes anchors most message judged answer
  wanting : answer ≡ Err NoMemory → Comes anchors most message judged answer

-- the groups of judged groups with their bounds
pub its_groups : (t : ℕ) (js : List Judged) → map (λ (b : Bounded). b.group) (map (bounded_at t) js) ≡ map (λ (j : Judged). j.group) js
its_groups t [] = refl
its_groups t (j ∷ js) = ap (λ (gs : List Group). j.group ∷ gs) (its_groups t js)

-- what is too long with TTLs cut is too long as it is written out
pub long_out : (anchors : List Record) (most t : ℕ) (message : List ℕ) (questions : List Question) (answers authorities : List Judged)
    → AreRead anchors most message questions (map (λ (j : Judged). j.group) answers) (map (λ (j : Judged). j.group) authorities)
    → rewriting message (map (bounded_at t) answers) (map (bounded_at t) authorities) ≡ Err refusals.PushError
    → sent (written_out anchors most message) ≡ Err refusals.PushError
long_out anchors most t message questions answers authorities read e =
    let past = too_long message (map (bounded_at t) answers) (map (bounded_at t) authorities) e in
    let whole : rewriting message (map uncut (map (λ (x : Judged). x.group) answers)) (map uncut (map (λ (x : Judged). x.group) authorities)) ≡ Err refusals.PushError =
    ap (λ (gs : List Group). rewriting message (map uncut gs) (map uncut (map (λ (x : Judged). x.group) authorities))) (sym (its_groups t answers))
    ∙ (ap (λ (gs : List Group). rewriting message (map uncut (map (λ (b : Bounded). b.group) (map (bounded_at t) answers))) (map uncut gs)) (sym (its_groups t authorities)) ∙ past) in
    rw (read.read, read.answers_are, read.authorities_are) whole

pub comes : (w : World) (most t : ℕ) (message : List ℕ) (judged answer : Result Verdict Error) (left : List ℕ) (groups : Option Both)
    → IfSome groups (λ both. AreJudged w most message both) → IsHanded message (handed_on t message judged groups) answer left
    → Comes w.anchors most message judged answer
comes w most t message judged answer left groups sound (inr none) = wanting none.0
comes w most t message judged answer left None sound (inl same) = as_judged same.0
comes w most t message judged answer left (Some both) sound (inl same) = by (rewriting message (map (bounded_at t) both.0) (map (bounded_at t) both.1)) refl same.0
  where
    by : (r : Result (List ℕ) RewriteError) → rewriting message (map (bounded_at t) both.0) (map (bounded_at t) both.1) ≡ r
        → answer ≡ (by_rewriting message judged r).0 → Comes w.anchors most message judged answer
    by (Ok made) e a = as_judged a
    by (Err refusals.ParseError) e a = cannot refusals.ParseError a (kept_unread message (map (bounded_at t) both.0) (map (bounded_at t) both.1) e)
    by (Err refusals.PushError) e a = cannot refusals.PushError a (long_out w.anchors most t message sound.questions both.0 both.1 sound.read e)
    by (Err refusals.NoMemory) e a = wanting a

-- what is said of a message that can't be rewritten, so that it is wanted of each clause
by_cannot : (anchors : List Record) (most : ℕ) (message : List ℕ) (P : Result Verdict Error → Type 0) → ((e : Error) → SaysCannot anchors most message e → P (Err e))
    → (e : RewriteError) → CannotBeRewritten anchors most message e → P (Err (error_by e))
by_cannot anchors most message P f refusals.ParseError c = f ParseError c
by_cannot anchors most message P f refusals.PushError c = f PushError c
by_cannot anchors most message P f refusals.NoMemory c = absurd c

by_coming : (anchors : List Record) (most : ℕ) (message : List ℕ) (P : Result Verdict Error → Type 0) (judged answer : Result Verdict Error)
    → P judged → ((e : Error) → SaysCannot anchors most message e → P (Err e)) → P (Err NoMemory) → Comes anchors most message judged answer → P answer
by_coming anchors most message P judged answer p f n (as_judged e) = subst P (sym e) p
by_coming anchors most message P judged answer p f n (cannot e is c) = subst P (sym is) (by_cannot anchors most message P f e c)
by_coming anchors most message P judged answer p f n (wanting e) = subst P (sym e) n

-- a message that isn't read to its question
not_asked : (message : List ℕ) (r : IsReadable message) → ((question : Question) (rest : ℕ) → questions_of message ≡ Some (question ∷ [], rest) → ⊥)
    → HasNotOneQuestion message
not_asked message r none = record {
  readable = r;
  not_one = λ one.
      let asked = asks_one message r one in
      none asked.0 asked.1 asked.2;
}

-- an answer says of the message what it is
pub says : (w : World) (most : ℕ) (message : List ℕ) (asked : List Asked) (judged answer : Result Verdict Error) → IsAnswer w most message asked judged
    → Comes w.anchors most message judged answer → SaysOf w.anchors most message answer
says w most message asked judged answer so = by_coming w.anchors most message (SaysOf w.anchors most message) judged answer (by judged so) cannot_say tt
  where
    by : (x : Result Verdict Error) → IsAnswer w most message asked x → SaysOf w.anchors most message x
    by (Ok v) s = s.2
    by (Err FormError) s = not_asked message s.0 s.1
    by (Err ParseError) s = sections_unread message s.0
    by (Err NoMemory) s = tt
    by (Err (InplaceError e)) s = absurd s
    by (Err OctetsConversion) s = absurd s
    by (Err PushError) s = absurd s
    by (Err PushNameError) s = absurd s
    by (Err ReadError) s = absurd s
    by (Err ShortMessage) s = absurd s

    cannot_say : (e : Error) → SaysCannot w.anchors most message e → SaysOf w.anchors most message (Err e)
    cannot_say ParseError c = c
    cannot_say PushError c = c
    cannot_say FormError c = absurd c
    cannot_say NoMemory c = absurd c
    cannot_say (InplaceError e) c = absurd c
    cannot_say OctetsConversion c = absurd c
    cannot_say PushNameError c = absurd c
    cannot_say ReadError c = absurd c
    cannot_say ShortMessage c = absurd c

cannot_verdict : (Holds : Verdict → Type 0) (anchors : List Record) (most : ℕ) (message : List ℕ) (e : Error) → SaysCannot anchors most message e → IsVerdict Holds anchors most message (Err e)
cannot_verdict Holds anchors most message ParseError c = c
cannot_verdict Holds anchors most message PushError c = c
cannot_verdict Holds anchors most message FormError c = absurd c
cannot_verdict Holds anchors most message NoMemory c = absurd c
cannot_verdict Holds anchors most message (InplaceError e) c = absurd c
cannot_verdict Holds anchors most message OctetsConversion c = absurd c
cannot_verdict Holds anchors most message PushNameError c = absurd c
cannot_verdict Holds anchors most message ReadError c = absurd c
cannot_verdict Holds anchors most message ShortMessage c = absurd c

-- where judging comes to a verdict, so does the call, but for what it says
pub verdict : (Holds : Verdict → Type 0) (anchors : List Record) (most : ℕ) (message : List ℕ) (judged answer : Result Verdict Error) → OkOrNoMemory Holds judged
    → Comes anchors most message judged answer → IsVerdict Holds anchors most message answer
verdict Holds anchors most message judged answer h = by_coming anchors most message (IsVerdict Holds anchors most message) judged answer (by judged h) (cannot_verdict Holds anchors most message) tt
  where
    by : (x : Result Verdict Error) → OkOrNoMemory Holds x → IsVerdict Holds anchors most message x
    by (Ok v) o = o
    by (Err e) o = subst (λ (x : Error). IsVerdict Holds anchors most message (Err x)) (sym o) tt

-- the same, where the upstream tells its table, all that was held is of it, and the message is of a kind
pub told_verdict : (Of Is : Table → Type 0) (Holds : Verdict → Type 0) (anchors : List Record) (most : ℕ) (message : List ℕ) (table : Option Table) (judged answer : Result Verdict Error)
    → IfSome table (λ t. Of t → Is t → OkOrNoMemory Holds judged) → Comes anchors most message judged answer
    → IfSome table (λ t. Of t → Is t → IsVerdict Holds anchors most message answer)
told_verdict Of Is Holds anchors most message None judged answer h came = tt
told_verdict Of Is Holds anchors most message (Some t) judged answer h came = λ a b. verdict Holds anchors most message judged answer (h a b) came

-- where judging is refused for want of one question, or comes to a bogus verdict, so is the call, but for what it says
pub refusal : (anchors : List Record) (most : ℕ) (message : List ℕ) (judged answer : Result Verdict Error) → RefusedOrBogus FormError judged
    → Comes anchors most message judged answer → IsRefusal anchors most message answer
refusal anchors most message judged answer h = by_coming anchors most message (IsRefusal anchors most message) judged answer (by judged h) cannot_refuse tt
  where
    by : (x : Result Verdict Error) → RefusedOrBogus FormError x → IsRefusal anchors most message x
    by (Ok v) o = o
    by (Err e) (inl o) = subst (λ (x : Error). IsRefusal anchors most message (Err x)) (sym o) tt
    by (Err e) (inr o) = subst (λ (x : Error). IsRefusal anchors most message (Err x)) (sym o) tt

    cannot_refuse : (e : Error) → SaysCannot anchors most message e → IsRefusal anchors most message (Err e)
    cannot_refuse ParseError c = c
    cannot_refuse PushError c = c
    cannot_refuse FormError c = absurd c
    cannot_refuse NoMemory c = absurd c
    cannot_refuse (InplaceError e) c = absurd c
    cannot_refuse OctetsConversion c = absurd c
    cannot_refuse PushNameError c = absurd c
    cannot_refuse ReadError c = absurd c
    cannot_refuse ShortMessage c = absurd c

-- what can't be read is too long for nothing
not_long : (anchors : List Record) (most : ℕ) (message : List ℕ) → sections_of message ≡ None → sent (written_out anchors most message) ≡ Err refusals.PushError → ⊥
not_long anchors most message e c =
    two_errors (sent (written_out anchors most message)) (rw e refl) c
  where
    two_errors : (x : Result (List ℕ) RewriteError) → x ≡ Err refusals.ParseError → x ≡ Err refusals.PushError → ⊥
    two_errors x f g = cc

-- where judging is refused since the message can't be read, so is the call
pub unreadable : (anchors : List Record) (most : ℕ) (message : List ℕ) (judged answer : Result Verdict Error) → sections_of message ≡ None → RefusedOrNoMemory ParseError judged
    → Comes anchors most message judged answer → RefusedOrNoMemory ParseError answer
unreadable anchors most message judged answer e h = by_coming anchors most message (RefusedOrNoMemory ParseError) judged answer h cannot_read (inr refl)
  where
    cannot_read : (x : Error) → SaysCannot anchors most message x → RefusedOrNoMemory ParseError (Err x)
    cannot_read ParseError c = inl refl
    cannot_read PushError c = absurd (not_long anchors most message e c)
    cannot_read FormError c = absurd c
    cannot_read NoMemory c = absurd c
    cannot_read (InplaceError x) c = absurd c
    cannot_read OctetsConversion c = absurd c
    cannot_read PushNameError c = absurd c
    cannot_read ReadError c = absurd c
    cannot_read ShortMessage c = absurd c

-- what holds of each verdict of judging holds of the call's
pub of_verdict : (Holds : Verdict → Type 0) (anchors : List Record) (most : ℕ) (message : List ℕ) (judged answer : Result Verdict Error) → IfOk judged (λ v. Holds v)
    → Comes anchors most message judged answer → IfOk answer (λ v. Holds v)
of_verdict Holds anchors most message judged answer h = by_coming anchors most message (λ (x : Result Verdict Error). IfOk x (λ v. Holds v)) judged answer h (λ e c. tt) tt
