-- What each outcome of a message means: what was read, which group decides, what is shown of it, and what is denied (RFC 4033 5, RFC 4035 5).
use Rattle.std.specs.Prelude.{◌≡◌, ◌≢◌, ◌⊎◌, ℕ, ◌≤◌, IsSome, List, [], ◌∷◌, ◌++◌, length, map, Contains, slice_get, Option, Some, None}
use Rattle.std.specs.List.{AllByRecursion}
use Rattle.dsec_spec.specs.Names.{Labels, Place, place}
use Rattle.dsec_spec.specs.Numbers.{ANY}
use Rattle.dsec_spec.specs.Records.{Record}
use Rattle.dsec_spec.specs.Messages.{Question, questions_of, answers_of, authorities_of, rcode_of}
use Rattle.dsec_spec.specs.Groups.{Group, groups_of}
use Rattle.dsec_spec.specs.Islands.{island}
use Rattle.dsec_spec.specs.Redirection.{moved}
use Rattle.dsec_spec.specs.AtQuestion.{IsAtQuestion}
use Rattle.dsec_alias.specs.Paths.{LeadsOnTo}
use Rattle.dsec_nodes.specs.World.{World}
use Rattle.dsec_nodes.specs.Causes.{Cause, RrsigWithoutRrset, NoTrustAnchor}
use Rattle.dsec_nodes.specs.Nodes.{SignedCause}
use Rattle.dsec_nodes.specs.Judging.{is_insecure, Judged}
use Rattle.dsec_nodes.specs.Outcomes.{State, secure, insecure, bogus, indeterminate, Used, Why, by_groups, by_cause, by_links, by_nothing, Outcome}
use Rattle.dsec_nodes.specs.Aliases.{reached}
use Rattle.dsec_nodes.specs.SoundAliases.{AreAliases, IsFromAbove, AreSecureAliases}
use Rattle.dsec_nodes.specs.SoundFindings.{IsShownInsecure, IsShown, IsShownItself, IsShownFrom, LeadTo}
use Rattle.dsec_nodes.specs.SoundDenials.{IsSoaFor}
use Rattle.dsec_nodes.specs.SoundHashes.{IsLeftOpenBy}
use Rattle.dsec_nodes.specs.SoundProofs.{Disproof, disproof_used, IsDeniedBy, IsOfCloser, IsByRcode}

-- the message has this one question, and these are the groups of its answer section, CNAME records that follow from a DNAME record moved to
-- it where no anchor stands between the two, and of its authority section (RFC 1035 4.1, RFC 4033 2, RFC 6672 3.1)
pub record IsRead (anchors : List Record) (message : List ℕ) (most : ℕ) (question : Question) (answers authorities : List Group) : Type 0 where
  pub questions_end : ℕ
  pub asked : questions_of message ≡ Some (question ∷ [], questions_end)
  pub answer_records : List Record
  pub answers_end : ℕ
  pub answers_read : answers_of message ≡ Some (answer_records, answers_end)
  pub answers_are : moved anchors most (groups_of answer_records) ≡ Some answers
  pub authority_records : List Record
  pub authorities_end : ℕ
  pub authorities_read : authorities_of message ≡ Some (authority_records, authorities_end)
  pub authorities_are : groups_of authority_records ≡ authorities

-- Judging ends at the name to which aliases lead from the question's: by so many at most, the sets of these judged groups, and no other leads on from
-- there. The question is the message's, at that name; where it is for DS, no CNAME record on the way is of the zone below its name; beside the
-- aliases stand these groups of the authority section (RFC 1034 3.6.2, RFC 4035 2.4).
pub record EndsThere (w : World) (most : ℕ) (message : List ℕ) : Type 0 where
  pub asked : Question
  pub answers : List Group
  pub authorities : List Group
  pub read : IsRead w.anchors message most asked answers authorities
  pub final : Labels
  pub question : Question
  pub question_is : question ≡ reached asked final
  pub aliases : List Judged
  pub beside : List Used
  pub way : AreAliases w.anchors answers asked asked.name (map (λ j. j.group) aliases) final
  pub few : length aliases ≤ most
  pub from_above : AllByRecursion (IsFromAbove asked) aliases
  pub no_alias : (other : Group) → Contains answers other → (target : Labels) → LeadsOnTo w.anchors question other target → ⊥

-- and each of the aliases is Secure, with what is denied beside it
abbrev pub IsSecureWay : {w : World} {most : ℕ} {message : List ℕ} → EndsThere w most message → Type 0
IsSecureWay {w} end = AreSecureAliases w end.answers end.authorities end.asked end.asked.name end.aliases end.beside end.final

-- there was no error, and the message's one question is answered by this group of its answer section (RFC 1034 3.7.1)
pub record IsAnswered (w : World) (most : ℕ) (message : List ℕ) (group : Group) : Type 0 where
  pub end : EndsThere w most message
  pub no_error : rcode_of message ≡ Some 0
  pub index : ℕ
  pub stands : slice_get end.answers index ≡ Some group
  pub at_question : IsAtQuestion end.question group

-- of these groups none answers the question: without an error, and where one type is asked for, none is at its name, class and type
-- (RFC 1034 3.7.1, RFC 2308 2)
abbrev pub HasNoAnswer : List ℕ → Question → List Group → Type 0
HasNoAnswer message question answers =
    rcode_of message ≡ Some 0 → question.rtype ≢ ANY → (other : Group) → Contains answers other → IsAtQuestion question other → ⊥

-- this group of its authority section is the SOA set by which it denies, and no group of its answer section answers (RFC 2308 2)
pub record HasSoa (w : World) (most : ℕ) (message : List ℕ) (group : Group) : Type 0 where
  pub end : EndsThere w most message
  pub index : ℕ
  pub stands : slice_get end.authorities index ≡ Some group
  pub soa : IsSoaFor w end.question group
  pub no_answer : HasNoAnswer message end.question end.answers

-- the group decides: it answers, or is the SOA set by which the message denies (RFC 2308 2, RFC 4035 5)
abbrev pub Decides : World → ℕ → List ℕ → Group → Type 0
Decides w most message group = IsAnswered w most message group ⊎ HasSoa w most message group

-- a Secure outcome: links show the answer's set, which is no expansion of a wildcard (RFC 4033 5, RFC 4035 5.3)
pub record IsSecureAnswer (w : World) (most : ℕ) (message : List ℕ) (o : Outcome) : Type 0 where
  pub judged : Judged
  pub answered : IsAnswered w most message judged.group
  pub on_way : IsSecureWay answered.end
  pub itself : IsShownItself w judged
  pub why : o.why ≡ by_groups (answered.end.aliases ++ judged ∷ []) (answered.end.beside ++ [])

-- or they show it as an expansion of the wildcard under a name, and that a closer name exists is denied (RFC 4035 5.3.4)
pub record IsSecureByWildcard (w : World) (most : ℕ) (message : List ℕ) (o : Outcome) : Type 0 where
  pub judged : Judged
  pub answered : IsAnswered w most message judged.group
  pub on_way : IsSecureWay answered.end
  pub encloser : Place
  pub expanded : IsShownFrom w judged encloser
  pub disproof : Disproof Used
  pub of_closer : IsOfCloser encloser disproof
  pub denied : IsDeniedBy w answered.end.authorities answered.end.question judged.signer disproof
  pub why : o.why ≡ by_groups (answered.end.aliases ++ judged ∷ []) (answered.end.beside ++ disproof_used disproof)

-- or they show the SOA set by which the message denies, and the type, or with an error the name, is denied (RFC 2308 2, RFC 4035 5.4)
pub record IsSecureDenial (w : World) (most : ℕ) (message : List ℕ) (o : Outcome) : Type 0 where
  pub judged : Judged
  pub has_soa : HasSoa w most message judged.group
  pub on_way : IsSecureWay has_soa.end
  pub shown : IsShown w judged
  pub disproof : Disproof Used
  pub by_rcode : IsByRcode (rcode_of message) disproof
  pub denied : IsDeniedBy w has_soa.end.authorities has_soa.end.question judged.signer disproof
  pub why : o.why ≡ by_groups (has_soa.end.aliases ++ judged ∷ []) (has_soa.end.beside ++ disproof_used disproof)

-- a Secure outcome is one of these, and no cause is told (RFC 4033 5)
abbrev pub IsSound : World → ℕ → List ℕ → Outcome → Type 0
IsSound w most message o =
    (IsSecureAnswer w most message o ⊎ IsSecureByWildcard w most message o ⊎ IsSecureDenial w most message o) × (o.cause ≡ None)

-- An Insecure outcome: a signed record shows at the moment of judging, from an anchor of its island, that no chain leads to a name at or above
-- the zone that is to have signed the group that decides, and the cause that is told is the record's (RFC 4033 5, RFC 4035 5.2, RFC 8914 4)
pub record IsInsecure (w : World) (most : ℕ) (message : List ℕ) (o : Outcome) : Type 0 where
  pub group : Group
  pub decides : Decides w most message group
  pub signed : SignedCause
  pub shown : IsShownInsecure w group o.cause signed
  pub why : o.why ≡ by_cause signed

-- or the group is of signatures alone, which nothing signs (RFC 4035 2.2)
pub record HasSignaturesAlone (w : World) (most : ℕ) (message : List ℕ) (o : Outcome) : Type 0 where
  pub group : Group
  pub decides : Decides w most message group
  pub no_records : group.records ≡ []
  pub cause : o.cause ≡ Some RrsigWithoutRrset
  pub why : o.why ≡ by_nothing

-- or the message denies, links show the SOA set by which it does, and an NSEC3 record leaves open what is denied; a cause that is told is the
-- record's (RFC 5155 6, RFC 8914 4, RFC 9276 3.2)
pub record IsOpenDenial (w : World) (most : ℕ) (message : List ℕ) (o : Outcome) : Type 0 where
  pub judged : Judged
  pub has_soa : HasSoa w most message judged.group
  pub shown : IsShown w judged
  pub used : Used
  pub left_open : IsLeftOpenBy w has_soa.end.authorities has_soa.end.question judged.signer used o.cause
  pub why : o.why ≡ by_groups (has_soa.end.aliases ++ judged ∷ []) (has_soa.end.beside ++ used ∷ [])

-- or links show the answer's set as an expansion of a wildcard, and an NSEC3 record leaves open whether a closer name exists; a cause that is told
-- is the record's (RFC 5155 6, 8.8, RFC 8914 4, RFC 9276 3.2)
pub record IsOpenByWildcard (w : World) (most : ℕ) (message : List ℕ) (o : Outcome) : Type 0 where
  pub judged : Judged
  pub answered : IsAnswered w most message judged.group
  pub encloser : Place
  pub expanded : IsShownFrom w judged encloser
  pub used : Used
  pub left_open : IsLeftOpenBy w answered.end.authorities answered.end.question judged.signer used o.cause
  pub why : o.why ≡ by_groups (answered.end.aliases ++ judged ∷ []) (answered.end.beside ++ used ∷ [])

-- or so does a signed record of an alias on the way, which is kept with the alias; no cause is told (RFC 4033 5, RFC 4035 5.2)
pub record HasInsecureAlias (w : World) (most : ℕ) (message : List ℕ) (o : Outcome) : Type 0 where
  pub end : EndsThere w most message
  pub alias : Judged
  pub on_way : Contains end.aliases alias
  pub its_cause : Option Cause
  pub signed : SignedCause
  pub found : alias.finding ≡ is_insecure its_cause signed
  pub shown : IsShownInsecure w alias.group its_cause signed
  pub no_cause : o.cause ≡ None
  pub others : List Judged
  pub used : List Used
  pub why : o.why ≡ by_groups (end.aliases ++ others) (end.beside ++ used)

-- or links show an alias on the way as an expansion of a wildcard, and an NSEC3 record leaves open whether a closer name exists (RFC 5155 6, 8.8,
-- RFC 9276 3.2)
pub record HasOpenAlias (w : World) (most : ℕ) (message : List ℕ) (o : Outcome) : Type 0 where
  pub end : EndsThere w most message
  pub alias : Judged
  pub on_way : Contains end.aliases alias
  pub encloser : Place
  pub expanded : IsShownFrom w alias encloser
  pub one : Used
  pub kept : Contains end.beside one
  pub name : Labels
  pub at_name : place alias.group.owner ≡ place name
  pub left_open : IsLeftOpenBy w end.authorities (reached end.asked name) alias.signer one None
  pub no_cause : o.cause ≡ None
  pub others : List Judged
  pub used : List Used
  pub why : o.why ≡ by_groups (end.aliases ++ others) (end.beside ++ used)

-- an Insecure outcome is one of these (RFC 4033 5)
abbrev pub IsLeftInsecure : World → ℕ → List ℕ → Outcome → Type 0
IsLeftInsecure w most message o =
    IsInsecure w most message o ⊎ HasSignaturesAlone w most message o ⊎ IsOpenDenial w most message o ⊎ IsOpenByWildcard w most message o
    ⊎ HasInsecureAlias w most message o ⊎ HasOpenAlias w most message o

-- an Indeterminate outcome: no anchor stands at or above where the group that decides is looked for (RFC 4033 5)
pub record IsUnanchored (w : World) (most : ℕ) (message : List ℕ) (o : Outcome) : Type 0 where
  pub group : Group
  pub decides : Decides w most message group
  pub no_island : island w.anchors (place group.owner) group.rtype ≡ None
  pub cause : o.cause ≡ Some NoTrustAnchor
  pub why : o.why ≡ by_nothing

-- or an alias on the way is, which is kept; no cause is told (RFC 4033 5)
pub record HasUnanchoredAlias (w : World) (most : ℕ) (message : List ℕ) (o : Outcome) : Type 0 where
  pub end : EndsThere w most message
  pub alias : Judged
  pub on_way : Contains end.aliases alias
  pub no_island : island w.anchors (place alias.group.owner) alias.group.rtype ≡ None
  pub no_cause : o.cause ≡ None
  pub others : List Judged
  pub used : List Used
  pub why : o.why ≡ by_groups (end.aliases ++ others) (end.beside ++ used)

-- why an outcome is Bogus is told by links from an anchor to a zone's keys, or not at all: by no group, and by no signed record (RFC 4033 5)
abbrev pub IsBogusBy : World → Why → Type 0
IsBogusBy w (by_links links) = (zone : Place) × LeadTo w links zone
IsBogusBy w by_nothing = Unit {0}
IsBogusBy w (by_groups judged used) = ⊥
IsBogusBy w (by_cause signed) = ⊥

-- what each state means of an outcome; a Bogus one has a cause, and its links hold (RFC 4033 5)
abbrev pub IsJustified : World → ℕ → List ℕ → Outcome → State → Type 0
IsJustified w most message o secure = IsSound w most message o
IsJustified w most message o insecure = IsLeftInsecure w most message o
IsJustified w most message o bogus = IsSome o.cause × IsBogusBy w o.why
IsJustified w most message o indeterminate = IsUnanchored w most message o ⊎ HasUnanchoredAlias w most message o
