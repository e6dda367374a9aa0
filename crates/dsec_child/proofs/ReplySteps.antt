-- Replies, read by their sections.
use Rattle.std.proofs.Common.{◌≡◌, ℕ, suc, ◌≤◌, List, [], ◌∷◌, length, drop, Option, Some, None, refl, sym, ap, ◌∙◌, arith}
use Rattle.std.proofs.lemmas.List.{length-drop}
use Rattle.std.proofs.lemmas.Option.{same_Some}
use Rattle.dsec_spec.specs.Groups.{groups_of}
use Rattle.dsec_spec.specs.Messages.{Header, header_of, answers_of, authorities_of, questions_of}
use Rattle.dsec_spec.specs.Reading.{◌>>=◌, u16_in, u16_at}
use Rattle.dsec_spec.specs.Records.{Record}
use Rattle.dsec_spec.proofs.ReadingLemmas.{from_bind}
use Rattle.dsec_message.specs.declared.sections.Sections.{Sections}
use Rattle.dsec_message.specs.MessageSections.{SectionsRead, sections_of, sections_and_place}
use Rattle.dsec_message.proofs.SectionReading.{authorities_none}
use Rattle.dsec_group.specs.Reading.{GroupsRead, groups_and_place}
use Rattle.dsec_group.specs.declared.sections.GroupedSections.{GroupedSections}
use Rattle.dsec_group.proofs.ReadingLaws.{from_groups, no_groups}
use Rattle.dsec_nodes.specs.Replies.{unreadable, sections, sections_by, read_reply}

-- the sections that were read are those of the reply
record AreRead (octets : List ℕ) (all : Sections) : Type 0 where
  answers_end : ℕ
  answers : answers_of octets ≡ Some (all.answer, answers_end)
  authorities_end : ℕ
  authorities : authorities_of octets ≡ Some (all.authority, authorities_end)

are_read : (octets : List ℕ) (all : Sections) → sections_of octets ≡ Some all → AreRead octets all
are_read octets all e =
    let whole = from_bind (sections_and_place octets) _ all e in
    let questions = from_bind (questions_of octets) _ whole.0 whole.1 in
    let answers = from_bind (answers_of octets) _ whole.0 questions.2 in
    let authorities = from_bind (authorities_of octets) _ whole.0 answers.2 in
    let parts : (record { question = questions.0.0; answer = answers.0.0; authority = authorities.0.0 }, authorities.0.1) ≡ whole.0 = same_Some _ _ authorities.2 in
    let same : record { question = questions.0.0; answer = answers.0.0; authority = authorities.0.0 } ≡ all = ap (λ (p : Sections × ℕ). p.0) parts ∙ same_Some _ _ whole.2 in
    record {
      answers_end = answers.0.1;
      answers = answers.1 ∙ ap (λ (s : Sections). Some (s.answer, answers.0.1)) same;
      authorities_end = authorities.0.1;
      authorities = authorities.1 ∙ ap (λ (s : Sections). Some (s.authority, authorities.0.1)) same;
    }

-- a reply whose sections are readable
by_sections : (octets : List ℕ) (all : Sections) → sections_of octets ≡ Some all → sections (groups_of all.answer) (groups_of all.authority) ≡ read_reply (Some octets)
by_sections octets all e =
    let read = are_read octets all e in
    sym (ap (λ (o : Option (List Record × ℕ)). sections_by (o >>= λ authorities. answers_of octets >>= λ answers. Some (answers.0, authorities.0))) read.authorities
    ∙ ap (λ (o : Option (List Record × ℕ)). sections_by (o >>= λ answers. Some (answers.0, all.authority))) read.answers)

-- the same by its groups
pub by_groups : (octets : List ℕ) (read : GroupsRead) → groups_and_place octets ≡ Some read → sections read.0.answer.groups read.0.authority.groups ≡ read_reply (Some octets)
by_groups octets read e =
    let has = from_groups octets read e in
    ap (λ (g : GroupedSections). sections g.answer.groups g.authority.groups) has.grouped
    ∙ by_sections octets has.sections (ap (λ (o : Option SectionsRead). ◌>>=◌ {A = SectionsRead} {B = Sections} o (λ all. Some all.0)) has.whole)

no_authorities : (octets : List ℕ) → authorities_of octets ≡ None → unreadable ≡ read_reply (Some octets)
no_authorities octets e = sym (ap (λ (o : Option (List Record × ℕ)). sections_by (o >>= λ authorities. answers_of octets >>= λ answers. Some (answers.0, authorities.0))) e)

-- one without readable sections
pub without_groups : (octets : List ℕ) → groups_and_place octets ≡ None → unreadable ≡ read_reply (Some octets)
without_groups octets e = no_authorities octets (authorities_none octets (no_groups octets e))

-- one shorter than a header
header_read : (m : List ℕ) (x : List Record × ℕ) → authorities_of m ≡ Some x → (h : Header) × (header_of m ≡ Some h)
unfolding authorities_of
header_read m x e = let b = from_bind (header_of m) _ x e in (b.0, b.1)

long_enough : (m : List ℕ) (n : ℕ) → u16_at m 10 ≡ Some n → 12 ≤ length m
long_enough m n e = by (drop 10 m) refl e
  where
    by : (x : List ℕ) → drop 10 m ≡ x → u16_in x ≡ Some n → 12 ≤ length m
    by [] f g = absurd cc
    by (a ∷ []) f g = absurd cc
    by (a ∷ b ∷ rest) f g = let l : length (drop 10 m) ≡ suc (suc (length rest)) = ap length f in omega (arith, l, length-drop 10 m)

pub too_short : (octets : List ℕ) → (12 ≤ length octets → ⊥) → unreadable ≡ read_reply (Some octets)
too_short octets short = no_authorities octets (by (authorities_of octets) refl)
  where
    with_header : (header : Header) → header_of octets ≡ Some header → ⊥
    with_header header e =
        let id = from_bind (u16_at octets 0) _ header e in
        let flags = from_bind (u16_at octets 2) _ header id.2 in
        let questions = from_bind (u16_at octets 4) _ header flags.2 in
        let answers = from_bind (u16_at octets 6) _ header questions.2 in
        let authorities = from_bind (u16_at octets 8) _ header answers.2 in
        let additionals = from_bind (u16_at octets 10) _ header authorities.2 in
        short (long_enough octets additionals.0 additionals.1)

    by : (o : Option (List Record × ℕ)) → authorities_of octets ≡ o → authorities_of octets ≡ None
    by None e = e
    by (Some x) e = absurd (let header = header_read octets x e in with_header header.0 header.1)
