-- Sections whose records are put into groups as they are read.
use Rattle.std.proofs.Common.{◌≡◌, ℕ, List, Option, Some, None, refl, sym, ap, ◌∙◌, subst}
use Rattle.std.proofs.lemmas.Option.{same_Some}
use Rattle.std.specs.Bool.{OnFalse}
use Rattle.dsec_spec.specs.Groups.{Group, groups_of}
use Rattle.dsec_spec.specs.Messages.{Header, header_of, Question, questions_of, answers_of, authorities_of, record_at}
use Rattle.dsec_spec.specs.Reading.{◌>>=◌, many_of}
use Rattle.dsec_spec.specs.Records.{Record}
use Rattle.dsec_spec.proofs.ReadingLemmas.{from_bind}
use Rattle.dsec_wire.specs.declared.error.MessageError.{MessageError}
use Rattle.dsec_wire.specs.declared.error.MessageError.TheVariants.{ParseError, NoMemory}
use Rattle.dsec_message.specs.declared.sections.Sections.{Sections}
use Rattle.dsec_wire.specs.Errors.{wants_memory}
use Rattle.dsec_message.specs.MessageSections.{SectionsRead, sections_and_place}
use Rattle.dsec_message.proofs.SectionReading.{answers_after, authorities_after, answers_read, sections_read}
use Rattle.dsec_group.specs.Hashing.{message_seed}
use Rattle.dsec_group.specs.Places.{SeededGroups}
use Rattle.dsec_group.specs.Reading.{GroupsRead, groups_and_place, in_groups, section_in_groups, seeded}
use Rattle.dsec_group.specs.declared.seed.Seed.{Seed}

-- a section that was read
pub some_in_groups : (seed : Seed) (read : Option (List Record × ℕ)) (section : List Record) (at : ℕ) (all : SeededGroups) → all.groups ≡ groups_of section → all.seed ≡ seed
    → read ≡ Some (section, at) → section_in_groups seed read ≡ Some (all, at)
some_in_groups seed read section at all g s e =
    ap (section_in_groups seed) e ∙ (ap (λ (gs : List Group). Some (record { groups = gs; seed = seed }, at)) (sym g) ∙ ap (λ (x : Seed). Some (record { groups = all.groups; seed = x }, at)) (sym s))

-- one that was not
pub none_in_groups : (seed : Seed) (error : MessageError) (read : Option (List Record × ℕ)) → OnFalse (wants_memory error) (read ≡ None)
    → OnFalse (wants_memory error) (section_in_groups seed read ≡ None)
none_in_groups seed NoMemory read e = tt
none_in_groups seed ParseError read e = ap (section_in_groups seed) e

none_from : (seed : Seed) (read : Option (List Record × ℕ)) → section_in_groups seed read ≡ None → read ≡ None
none_from seed None e = refl
none_from seed (Some section) e = absurd cc

-- the three sections, whose records were put into these groups
abbrev gathered : List Question → SeededGroups → SeededGroups × ℕ → GroupsRead
gathered questions answers authorities = (record { question = questions; answer = answers; authority = authorities.0 }, authorities.1)

-- the questions were not read
pub no_questions : (m : List ℕ) (error : MessageError) → OnFalse (wants_memory error) (questions_of m ≡ None) → OnFalse (wants_memory error) (groups_and_place m ≡ None)
no_questions m NoMemory q = tt
no_questions m ParseError q = rw q refl

-- the answer section was not read
pub no_answers : (m : List ℕ) (seed : Seed) (header : Header) (questions : List Question × ℕ) (error : MessageError) → header_of m ≡ Some header → questions_of m ≡ Some questions
    → OnFalse (wants_memory error) (section_in_groups seed (many_of (record_at m) header.answers questions.1) ≡ None) → OnFalse (wants_memory error) (groups_and_place m ≡ None)
no_answers m seed header questions NoMemory h q a = tt
no_answers m seed header questions ParseError h q a = rw (q, answers_after m header questions h q, none_from seed (many_of (record_at m) header.answers questions.1) a) refl

-- the authority section was not read
pub no_authorities : (m : List ℕ) (seed : Seed) (header : Header) (questions : List Question × ℕ) (answers : SeededGroups × ℕ) (error : MessageError) → header_of m ≡ Some header
    → questions_of m ≡ Some questions → section_in_groups seed (many_of (record_at m) header.answers questions.1) ≡ Some answers
    → OnFalse (wants_memory error) (section_in_groups seed (many_of (record_at m) header.authorities answers.1) ≡ None) → OnFalse (wants_memory error) (groups_and_place m ≡ None)
no_authorities m seed header questions answers NoMemory h q a n = tt
no_authorities m seed header questions answers ParseError h q a n =
    let section = from_bind (many_of (record_at m) header.answers questions.1) _ answers a in
    let place : section.0.1 ≡ answers.1 = ap (λ (p : SeededGroups × ℕ). p.1) (same_Some (seeded seed section.0.0, section.0.1) answers section.2) in
    let read : answers_of m ≡ Some section.0 = answers_after m header questions h q ∙ section.1 in
    let none : authorities_of m ≡ None =
    authorities_after m header section.0 h read ∙ (ap (λ (at : ℕ). many_of (record_at m) header.authorities at) place ∙ none_from seed (many_of (record_at m) header.authorities answers.1) n) in
    rw (q, read, none) refl

-- all three were read
pub groups_read : (m : List ℕ) (seed : Seed) (header : Header) (questions : List Question × ℕ) (answers authorities : SeededGroups × ℕ) → seed ≡ message_seed m (header_of m)
    → header_of m ≡ Some header → questions_of m ≡ Some questions → section_in_groups seed (many_of (record_at m) header.answers questions.1) ≡ Some answers
    → section_in_groups seed (many_of (record_at m) header.authorities answers.1) ≡ Some authorities
    → groups_and_place m ≡ Some (record { question = questions.0; answer = answers.0; authority = authorities.0 }, authorities.1)
groups_read m seed header questions answers authorities s h q a n =
    let first = from_bind (many_of (record_at m) header.answers questions.1) _ answers a in
    let second = from_bind (many_of (record_at m) header.authorities answers.1) _ authorities n in
    let one : (seeded seed first.0.0, first.0.1) ≡ answers = same_Some (seeded seed first.0.0, first.0.1) answers first.2 in
    let two : (seeded seed second.0.0, second.0.1) ≡ authorities = same_Some (seeded seed second.0.0, second.0.1) authorities second.2 in
    let place : first.0.1 ≡ answers.1 = ap (λ (p : SeededGroups × ℕ). p.1) one in
    let read : many_of (record_at m) header.authorities first.0.1 ≡ Some second.0 = ap (λ (at : ℕ). many_of (record_at m) header.authorities at) place ∙ second.1 in
    ap (λ (x : Seed). ◌>>=◌ {A = SectionsRead} {B = GroupsRead} (sections_and_place m) (λ sections. Some (in_groups x sections.0, sections.1))) (sym s)
    ∙ (ap (λ (o : Option SectionsRead). ◌>>=◌ {A = SectionsRead} {B = GroupsRead} o (λ sections. Some (in_groups seed sections.0, sections.1)))
    (sections_read m header (questions.0, first.0.0, first.0.1) second.0 h (answers_read m header questions first.0 h q first.1) read)
    ∙ (ap (λ (p : SeededGroups × ℕ). Some (gathered questions.0 (seeded seed first.0.0) p)) two ∙ ap (λ (p : SeededGroups × ℕ). Some (gathered questions.0 p.0 authorities)) one))

-- sections from their groups
pub record HasSections (m : List ℕ) (read : GroupsRead) : Type 0 where
  pub sections : Sections
  pub whole : sections_and_place m ≡ Some (sections, read.1)
  pub grouped : read.0 ≡ in_groups (message_seed m (header_of m)) sections

pub from_groups : (m : List ℕ) (read : GroupsRead) → groups_and_place m ≡ Some read → HasSections m read
from_groups m read e =
    let whole = from_bind (sections_and_place m) _ read e in
    let seed = message_seed m (header_of m) in
    let same : (in_groups seed whole.0.0, whole.0.1) ≡ read = same_Some (in_groups seed whole.0.0, whole.0.1) read whole.2 in
    subst (HasSections m) same (record { sections = whole.0.0; whole = whole.1; grouped = refl })

-- where no groups are read, no section is
pub no_groups : (m : List ℕ) → groups_and_place m ≡ None → sections_and_place m ≡ None
no_groups m e = by (sections_and_place m) refl e
  where
    by : (o : Option SectionsRead) → sections_and_place m ≡ o → ◌>>=◌ {A = SectionsRead} {B = GroupsRead} o (λ all. Some (in_groups (message_seed m (header_of m)) all.0, all.1)) ≡ None → sections_and_place m ≡ None
    by None f g = f
    by (Some s) f g = absurd cc
