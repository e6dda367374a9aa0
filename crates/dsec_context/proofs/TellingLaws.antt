-- What a call's answer is by the message alone: a verdict for a readable one with one question, Secure for an ordinary reply, and a refusal
-- for any other.
use Rattle.std.proofs.Common.{◌≡◌, ℕ, ◌<◌, List, length, Option, Some, None, IfSome, Result, Ok, Err, inl, inr, refl, sym, ap, ◌∙◌}
use Rattle.std.specs.Bool.{⊤}
use Rattle.dsec_spec.specs.Outside.{Table}
use Rattle.dsec_spec.specs.Groups.{Group}
use Rattle.dsec_nodes.specs.World.{World, Replies}
use Rattle.dsec_nodes.specs.Outcomes.{secure, Outcome}
use Rattle.dsec_nodes.specs.Alone.{Refusal, sections_of, alone}
use Rattle.dsec_plain.specs.PlainAnswers.{IsPlainAnswer}
use Rattle.dsec_plain.specs.Coming.{IsSecureBy, IsReadable, HasNotOneQuestion}
use Rattle.dsec_plain.proofs.Completeness.{complete}
use Rattle.dsec_found.specs.declared.error.Error.{Error}
use Rattle.dsec_found.specs.declared.error.Error.TheVariants.{FormError, ParseError, NoMemory, InplaceError, OctetsConversion, PushError, PushNameError, ReadError, ShortMessage}
use Rattle.dsec_found.specs.Errors.{answer_of}
use Rattle.dsec_context.specs.Outside.{Outside, replies_of, HoldsTable}
use Rattle.dsec_context.specs.Calls.{Verdict, IsCall, Says, CanCome, OkOrNoMemory, RefusedOrNoMemory, RefusedOrBogus}
use Rattle.dsec_context.proofs.ReadLaws.{not_both, asks_one, only_bogus}

-- a readable message with one question has a verdict, whatever was asked and replied
pub call_readable : (w : World) (most : ℕ) (message : List ℕ) (table : Option Table) (before after : Outside) (answer : Result Verdict Error)
    → IsCall w most message table before after answer → (r : IsReadable message) → length r.questions ≡ 1 → OkOrNoMemory (λ v. ⊤) answer
call_readable w most message table before after (Ok v) c r one = tt
call_readable w most message table before after (Err FormError) c r one =
    let asked = asks_one message r one in
    absurd (c.so.1 asked.0 asked.1 asked.2)
call_readable w most message table before after (Err ParseError) c r one = absurd (not_both message c.so.0 r)
call_readable w most message table before after (Err NoMemory) c r one = refl
call_readable w most message table before after (Err (InplaceError e)) c r one = absurd c.so
call_readable w most message table before after (Err OctetsConversion) c r one = absurd c.so
call_readable w most message table before after (Err PushError) c r one = absurd c.so
call_readable w most message table before after (Err PushNameError) c r one = absurd c.so
call_readable w most message table before after (Err ReadError) c r one = absurd c.so
call_readable w most message table before after (Err ShortMessage) c r one = absurd c.so

-- an unreadable one is refused as such
pub call_unreadable : (w : World) (most : ℕ) (message : List ℕ) (table : Option Table) (before after : Outside) (answer : Result Verdict Error)
    → IsCall w most message table before after answer → sections_of message ≡ None → RefusedOrNoMemory ParseError answer
call_unreadable w most message table before after (Ok v) c e = absurd (not_both message e c.so.2)
call_unreadable w most message table before after (Err FormError) c e = absurd (not_both message e c.so.0)
call_unreadable w most message table before after (Err ParseError) c e = inl refl
call_unreadable w most message table before after (Err NoMemory) c e = inr refl
call_unreadable w most message table before after (Err (InplaceError e)) c x = absurd c.so
call_unreadable w most message table before after (Err OctetsConversion) c x = absurd c.so
call_unreadable w most message table before after (Err PushError) c x = absurd c.so
call_unreadable w most message table before after (Err PushNameError) c x = absurd c.so
call_unreadable w most message table before after (Err ReadError) c x = absurd c.so
call_unreadable w most message table before after (Err ShortMessage) c x = absurd c.so

-- a readable one that hasn't one question is refused as such, or bogus
pub call_not_one : (w : World) (most : ℕ) (message : List ℕ) (table : Option Table) (before after : Outside) (answer : Result Verdict Error)
    → IsCall w most message table before after answer → HasNotOneQuestion message → RefusedOrBogus FormError answer
call_not_one w most message table before after (Ok v) c h = only_bogus w most message v.outcome h c.so.1
call_not_one w most message table before after (Err FormError) c h = inl refl
call_not_one w most message table before after (Err ParseError) c h = absurd (not_both message c.so.0 h.readable)
call_not_one w most message table before after (Err NoMemory) c h = inr refl
call_not_one w most message table before after (Err (InplaceError e)) c h = absurd c.so
call_not_one w most message table before after (Err OctetsConversion) c h = absurd c.so
call_not_one w most message table before after (Err PushError) c h = absurd c.so
call_not_one w most message table before after (Err PushNameError) c h = absurd c.so
call_not_one w most message table before after (Err ReadError) c h = absurd c.so
call_not_one w most message table before after (Err ShortMessage) c h = absurd c.so

-- no other error comes
pub call_comes : (w : World) (most : ℕ) (message : List ℕ) (table : Option Table) (before after : Outside) (answer : Result Verdict Error)
    → IsCall w most message table before after answer → CanCome answer
call_comes w most message table before after (Ok v) c = tt
call_comes w most message table before after (Err FormError) c = tt
call_comes w most message table before after (Err ParseError) c = tt
call_comes w most message table before after (Err NoMemory) c = tt
call_comes w most message table before after (Err (InplaceError e)) c = absurd c.so
call_comes w most message table before after (Err OctetsConversion) c = absurd c.so
call_comes w most message table before after (Err PushError) c = absurd c.so
call_comes w most message table before after (Err PushNameError) c = absurd c.so
call_comes w most message table before after (Err ReadError) c = absurd c.so
call_comes w most message table before after (Err ShortMessage) c = absurd c.so

same_outcome : (x y : Outcome) (r : Result Outcome Refusal) → r ≡ Ok x → r ≡ Ok y → x ≡ y
same_outcome x y r e f = cc

no_refusal : (x : Outcome) (e : Error) (r : Result Outcome Refusal) → r ≡ Ok x → answer_of r ≡ Err e → ⊥
no_refusal x e r f g = let clash : Ok x ≡ Err e = sym (ap answer_of f) ∙ g in cc

-- an answer that is that of the recursion is Secure where the recursion's is
says_secure : (w : World) (most : ℕ) (replies : Replies) (message : List ℕ) (group : Group) (answer : Result Verdict Error)
    → IsSecureBy w most replies message group → Says (alone w most replies message) answer → OkOrNoMemory (λ v. v.outcome.state ≡ secure) answer
says_secure w most replies message group (Ok v) s says =
    sym (ap (λ (o : Outcome). o.state) (same_outcome s.outcome v.outcome (alone w most replies message) s.comes_to says)) ∙ s.is_secure
says_secure w most replies message group (Err FormError) s says = absurd (no_refusal s.outcome FormError (alone w most replies message) s.comes_to says)
says_secure w most replies message group (Err ParseError) s says = absurd (no_refusal s.outcome ParseError (alone w most replies message) s.comes_to says)
says_secure w most replies message group (Err NoMemory) s says = refl
says_secure w most replies message group (Err (InplaceError e)) s says = absurd (no_refusal s.outcome (InplaceError e) (alone w most replies message) s.comes_to says)
says_secure w most replies message group (Err OctetsConversion) s says = absurd (no_refusal s.outcome OctetsConversion (alone w most replies message) s.comes_to says)
says_secure w most replies message group (Err PushError) s says = absurd (no_refusal s.outcome PushError (alone w most replies message) s.comes_to says)
says_secure w most replies message group (Err PushNameError) s says = absurd (no_refusal s.outcome PushNameError (alone w most replies message) s.comes_to says)
says_secure w most replies message group (Err ReadError) s says = absurd (no_refusal s.outcome ReadError (alone w most replies message) s.comes_to says)
says_secure w most replies message group (Err ShortMessage) s says = absurd (no_refusal s.outcome ShortMessage (alone w most replies message) s.comes_to says)

-- where the upstream tells its table, and all that was held is of it, an ordinary reply is Secure (RFC 4035 5)
pub call_complete : (w : World) (most : ℕ) (message : List ℕ) (table : Option Table) (before after : Outside) (answer : Result Verdict Error)
    → IsCall w most message table before after answer → 0 < w.bounds.room
    → IfSome table (λ t. HoldsTable w (replies_of t) before.held → IsPlainAnswer w (replies_of t) message → OkOrNoMemory (λ v. v.outcome.state ≡ secure) answer)
call_complete w most message None before after answer c some = tt
call_complete w most message (Some t) before after answer c some = λ h a.
    says_secure w most (replies_of t) message a.group answer (complete w most (replies_of t) message a some) (c.agrees (replies_of t) h c.counted.told).says
