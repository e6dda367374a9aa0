-- The one question of a message of octets has a type of 16 bits (RFC 1035 3.2.3), so that what a message denies is.
use Rattle.std.proofs.Common.{◌≡◌, ℕ, zero, suc, ◌+◌, ◌*◌, ◌<◌, List, [], ◌∷◌, drop, Some, sym, ap, subst, arith}
use Rattle.std.specs.Prelude.{All}
use Rattle.std.proofs.lemmas.Option.{same_Some}
use Rattle.std.proofs.lemmas.List.Elements.{All-drop}
use Rattle.dsec_spec.specs.Reading.{u16_in, u16_at, many_of}
use Rattle.dsec_spec.specs.WireNames.{name_at}
use Rattle.dsec_spec.specs.Messages.{Question, question_at, header_of, questions_of}
use Rattle.dsec_spec.specs.Names.{Place, place}
use Rattle.dsec_spec.proofs.ReadingLemmas.{from_bind}
use Rattle.dsec_spec.specs.Groups.{Group}
use Rattle.dsec_absence.specs.Denials.{IsDenial}
use Rattle.dsec_nsec3.specs.HashedDenials.{IsHashedDenial}
use Rattle.dsec_nodes.specs.World.{World}
use Rattle.dsec_nodes.specs.Outcomes.{Used, Outcome}
use Rattle.dsec_nodes.specs.SoundProofs.{Disproof, by_nsec, by_nsec3, IsDeniedBy}
use Rattle.dsec_nodes.specs.SoundOutcomes.{IsSecureDenial}

two_octets : (octets : List ℕ) (n : ℕ) → All (λ o. o < 256) octets → u16_in octets ≡ Some n → n < 65536
two_octets [] n h e = absurd cc
two_octets (high ∷ []) n h e = absurd cc
two_octets (high ∷ low ∷ octets) n h e =
    let is : high * 256 + low ≡ n = same_Some _ _ e in
    let first : high < 256 = h 0 0 (omega arith) in
    let second : low < 256 = h 1 0 (omega arith) in
    omega (arith, is, first, second)

asked_type : (message : List ℕ) (at : ℕ) (q : Question × ℕ) → All (λ o. o < 256) message → question_at message at ≡ Some q → q.0.rtype < 65536
unfolding question_at
asked_type message at q h e =
    let name = from_bind (name_at message at) _ q e in
    let rtype = from_bind (u16_at message name.0.1) _ q name.2 in
    let class = from_bind (u16_at message (name.0.1 + 2)) _ q rtype.2 in
    let is : rtype.0 ≡ q.0.rtype = ap (λ (p : Question × ℕ). p.0.rtype) (same_Some _ _ class.2) in
    subst (λ (n : ℕ). n < 65536) is (two_octets (drop name.0.1 message) rtype.0 (All-drop (λ (o : ℕ). o < 256) name.0.1 message h) rtype.1)

first_type : (message : List ℕ) (count at : ℕ) (question : Question) (end : ℕ) → All (λ o. o < 256) message
    → many_of (question_at message) count at ≡ Some (question ∷ [], end) → question.rtype < 65536
unfolding many_of
first_type message zero at question end h e = absurd (let none : [] ≡ question ∷ [] = ap (λ (p : List Question × ℕ). p.0) (same_Some _ _ e) in cc)
first_type message (suc n) at question end h e =
    let first = from_bind (question_at message at) _ (question ∷ [], end) e in
    let others = from_bind (many_of (question_at message) n first.0.1) _ (question ∷ [], end) first.2 in
    let lists : first.0.0 ∷ others.0.0 ≡ question ∷ [] = ap (λ (p : List Question × ℕ). p.0) (same_Some _ _ others.2) in
    let is : first.0.0 ≡ question = cc in
    subst (λ (q : Question). q.rtype < 65536) is (asked_type message at first.0 h first.1)

-- a message's one question has a type of 16 bits
pub type_is_small : (message : List ℕ) (question : Question) (end : ℕ) → All (λ o. o < 256) message → questions_of message ≡ Some (question ∷ [], end)
    → question.rtype < 65536
unfolding questions_of
type_is_small message question end h e =
    let header = from_bind (header_of message) _ (question ∷ [], end) e in
    first_type message header.0.questions 12 question end h header.2

-- the records by which the question's name and type are denied are of their places, and each zone with the signer as apex of which they are true owns
-- nothing of what is denied (RFC 4035 5.4, RFC 5155 8)
abbrev pub Disproves : (w : World) (authorities : List Group) (question : Question) (signer : Place) (d : Disproof Used) → IsDeniedBy w authorities question signer d → Type 0
Disproves w authorities question signer (by_nsec d) p = IsDenial signer (place question.name) question.rtype p.records
Disproves w authorities question signer (by_nsec3 d) p = IsHashedDenial signer (place question.name) question.rtype p.records

denied_so : (w : World) (authorities : List Group) (question : Question) (signer : Place) (d : Disproof Used) (p : IsDeniedBy w authorities question signer d)
    → question.rtype < 65536 → Disproves w authorities question signer d p
denied_so w authorities question signer (by_nsec d) p small = p.denies small
denied_so w authorities question signer (by_nsec3 d) p small = p.denies small

-- so in each zone of which the records are true that a message of octets uses, nothing is owned that it denies
pub denial_holds : (w : World) (most : ℕ) (message : List ℕ) (o : Outcome) (d : IsSecureDenial w most message o) → All (λ x. x < 256) message
    → Disproves w d.has_soa.end.authorities d.has_soa.end.question d.judged.signer d.disproof d.denied
denial_holds w most message o d h =
    let end = d.has_soa.end in
    let its : end.question.rtype ≡ end.asked.rtype = ap (λ (q : Question). q.rtype) end.question_is in
    denied_so w end.authorities end.question d.judged.signer d.disproof d.denied
    (subst (λ (n : ℕ). n < 65536) (sym its) (type_is_small message end.asked end.read.questions_end h end.read.asked))
