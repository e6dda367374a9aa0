-- What messages of `example.` come to by a table with its key set: types and names that are denied, and answers from a wildcard.
use Rattle.std.proofs.Common.{◌≡◌, ℕ, List, [], ◌∷◌, ◌++◌, length, map, Option, Some, None, Ok, Err, refl}
use Rattle.std.specs.Prelude.{Result, codes}
use Rattle.dsec_cause.specs.declared.cause.Cause.TheVariants.{MissingSoa, SoaWrongName, NoNsec3Proof, NoDenialProof}
use Rattle.dsec_spec.specs.Names.{Labels, asterisk, wire_octets}
use Rattle.dsec_spec.specs.RecordData.{labels_in, name_in, blocks_in}
use Rattle.dsec_spec.specs.Records.{key_octets, rrsig_octets, rrsig_of}
use Rattle.dsec_spec.specs.Messages.{question_at, record_at, data_at, parts_at, questions_of, answers_of, authorities_of, opt_of, first_opt}
use Rattle.dsec_spec.specs.Reading.{many_of}
use Rattle.dsec_spec.specs.WireNames.{name_at, name_within}
use Rattle.dsec_spec.specs.Signed.{signs}
use Rattle.dsec_spec.specs.Groups.{firsts}
use Rattle.dsec_spec.specs.Lasting.{least_ttl}
use Rattle.dsec_spec.specs.Islands.{longest}
use Rattle.dsec_spec.specs.Redirection as redirection
use Rattle.dsec_spec.proofs.ChainExample.{example as parent, zone_key}
use Rattle.dsec_absence.specs.Tests.{common}
use Rattle.dsec_absence.specs.Answers.{search}
use Rattle.dsec_nsec3.specs.Walks.{walk_from}
use Rattle.dsec_nsec3.specs.HashedAnswers.{type_from, cover_from}
use Rattle.dsec_alias.specs.Following.{do_cname_dname}
use Rattle.dsec_nodes.specs.World.{World, Replies}
use Rattle.dsec_nodes.specs.Causes.{Cause}
use Rattle.dsec_nodes.specs.Outcomes.{State, secure, bogus, Why, by_groups, by_cause, by_links, by_nothing, Outcome}
use Rattle.dsec_nodes.specs.Judging.{judged_all}
use Rattle.dsec_nodes.specs.Alone.{Refusal, alone}
use Rattle.dsec_nodes.proofs.NodeExamples as nodes

-- an anchor: the DNSKEY record of `example.`
abbrev w : World
w = record {
  accepts = nodes.w.accepts;
  anchors = record { owner = parent; class = 1; rtype = 48; ttl = 0; rdata = key_octets zone_key } ∷ [];
  bounds = nodes.w.bounds;
  now = 500;
}

abbrev named : Labels
named = codes "a" ∷ parent

abbrev starred : Labels
starred = asterisk ∷ parent

-- the data of a signature over so many labels by the key of `example.`
abbrev signature : ℕ → ℕ → List ℕ
signature covered labels = rrsig_octets (record {
  covered = covered;
  algorithm = 13;
  labels = labels;
  original_ttl = 3600;
  expiration = 1100;
  inception = 0;
  tag = 1296;
  signer = parent;
  signature = 9 ∷ [];
})

-- a record in a message, with TTL 300, and then its signature
abbrev on_wire : Labels → ℕ → List ℕ → List ℕ
on_wire owner rtype rdata = wire_octets owner ++ 0 ∷ rtype ∷ 0 ∷ 1 ∷ 0 ∷ 0 ∷ 1 ∷ 44 ∷ 0 ∷ length rdata ∷ rdata

abbrev signed : Labels → ℕ → ℕ → List ℕ → List ℕ
signed owner labels rtype rdata = on_wire owner rtype rdata ++ on_wire owner 46 (signature rtype labels)

-- a message with this rcode, so many records in the answer and the authority section, and this question
abbrev message_of : ℕ → ℕ → ℕ → Labels → ℕ → List ℕ → List ℕ
message_of rcode answers authorities name rtype records =
    0 ∷ 0 ∷ 132 ∷ rcode ∷ 0 ∷ 1 ∷ 0 ∷ answers ∷ 0 ∷ authorities ∷ 0 ∷ 0 ∷ [] ++ wire_octets name ++ 0 ∷ rtype ∷ 0 ∷ 1 ∷ [] ++ records

-- the table: the signed keys of `example.`
abbrev replies : Replies
replies _ _ = Some (0 ∷ 0 ∷ 132 ∷ 0 ∷ 0 ∷ 0 ∷ 0 ∷ 2 ∷ 0 ∷ 0 ∷ 0 ∷ 0 ∷ [] ++ signed parent 1 48 (key_octets zone_key))

abbrev soa : List ℕ
soa = signed parent 1 6 (0 ∷ 0 ∷ 0 ∷ 0 ∷ 0 ∷ 1 ∷ 0 ∷ 0 ∷ 0 ∷ 1 ∷ 0 ∷ 0 ∷ 0 ∷ 1 ∷ 0 ∷ 0 ∷ 0 ∷ 1 ∷ 0 ∷ 0 ∷ 0 ∷ 1 ∷ [])

-- the NSEC record of `example.`, with NS, SOA, RRSIG, NSEC and DNSKEY, and the only one of the zone
abbrev apex_nsec : List ℕ
apex_nsec = signed parent 1 47 (wire_octets parent ++ 0 ∷ 7 ∷ 34 ∷ 0 ∷ 0 ∷ 0 ∷ 0 ∷ 3 ∷ 128 ∷ [])

-- the NSEC record of `*.example.`, with A, RRSIG and NSEC, and the last one of the zone
abbrev star_nsec : List ℕ
star_nsec = signed starred 1 47 (wire_octets parent ++ 0 ∷ 6 ∷ 64 ∷ 0 ∷ 0 ∷ 0 ∷ 0 ∷ 3 ∷ [])

-- the indexes of the groups that denials use
abbrev used_of : Why → List ℕ
used_of (by_groups judged used) = map (λ u. u.index) used
used_of (by_cause signed) = []
used_of (by_links links) = []
used_of by_nothing = []

-- the state, the cause and the groups used
abbrev told : Result Outcome Refusal → Option (State × Option Cause × List ℕ)
told (Ok o) = Some (o.state, o.cause, used_of o.why)
told (Err refusal) = None

-- the address of `a.example.`, an expansion of `*.example.`
abbrev expanded : List ℕ
expanded = signed named 1 1 (192 ∷ 0 ∷ 2 ∷ 1 ∷ [])

-- `example. TXT`: the type isn't among the apex's
type_is_denied : told (alone w 11 replies (message_of 0 0 4 parent 16 (soa ++ apex_nsec))) ≡ Some (secure, None, 1 ∷ [])
unfolding longest judged_all search common questions_of answers_of authorities_of many_of question_at record_at data_at parts_at name_at name_within firsts redirection.staying_from rrsig_of name_in labels_in blocks_in signs least_ttl opt_of first_opt do_cname_dname
type_is_denied = refl

-- `example. NS`: it is, and the last cause is that no NSEC3 record proves otherwise
type_is_there : told (alone w 11 replies (message_of 0 0 4 parent 2 (soa ++ apex_nsec))) ≡ Some (bogus, Some NoNsec3Proof, [])
unfolding walk_from type_from longest judged_all search common questions_of answers_of authorities_of many_of question_at record_at data_at parts_at name_at name_within firsts redirection.staying_from rrsig_of name_in labels_in blocks_in signs least_ttl opt_of first_opt do_cname_dname
type_is_there = refl

-- `a.example. A`: one record is around the name and around the wildcard
name_is_denied : told (alone w 11 replies (message_of 3 0 4 named 1 (soa ++ apex_nsec))) ≡ Some (secure, None, 1 ∷ 1 ∷ [])
unfolding longest judged_all search common questions_of answers_of authorities_of many_of question_at record_at data_at parts_at name_at name_within firsts redirection.staying_from rrsig_of name_in labels_in blocks_in signs least_ttl opt_of first_opt do_cname_dname
name_is_denied = refl

-- without an SOA record nothing is denied
no_soa : told (alone w 11 replies (message_of 3 0 2 named 1 apex_nsec)) ≡ Some (bogus, Some MissingSoa, [])
unfolding longest judged_all search common questions_of answers_of authorities_of many_of question_at record_at data_at parts_at name_at name_within firsts redirection.staying_from rrsig_of name_in labels_in blocks_in signs least_ttl opt_of first_opt do_cname_dname
no_soa = refl

-- `a.example. TXT`: the name is missing, and its wildcard hasn't the type
type_below_is_denied : told (alone w 11 replies (message_of 0 0 4 named 16 (soa ++ star_nsec))) ≡ Some (secure, None, 1 ∷ 1 ∷ [])
unfolding longest judged_all search common questions_of answers_of authorities_of many_of question_at record_at data_at parts_at name_at name_within firsts redirection.staying_from rrsig_of name_in labels_in blocks_in signs least_ttl opt_of first_opt do_cname_dname
type_below_is_denied = refl

-- `a.example. DS`: the zone above denies it
ds_is_denied : told (alone w 11 replies (message_of 0 0 4 named 43 (soa ++ star_nsec))) ≡ Some (secure, None, 1 ∷ 1 ∷ [])
unfolding longest judged_all search common questions_of answers_of authorities_of many_of question_at record_at data_at parts_at name_at name_within firsts redirection.staying_from rrsig_of name_in labels_in blocks_in signs least_ttl opt_of first_opt do_cname_dname
ds_is_denied = refl

-- `example. DS`: the zone that begins at the name doesn't
ds_is_of_the_zone_above : told (alone w 11 replies (message_of 0 0 4 parent 43 (soa ++ apex_nsec))) ≡ Some (bogus, Some SoaWrongName, [])
unfolding longest judged_all search common questions_of answers_of authorities_of many_of question_at record_at data_at parts_at name_at name_within firsts redirection.staying_from rrsig_of name_in labels_in blocks_in signs least_ttl opt_of first_opt do_cname_dname
ds_is_of_the_zone_above = refl

-- `a.example. A`, from the wildcard: a closer name is missing
wildcard_answers : told (alone w 11 replies (message_of 0 2 2 named 1 (expanded ++ star_nsec))) ≡ Some (secure, None, 0 ∷ [])
unfolding longest judged_all search common questions_of answers_of authorities_of many_of question_at record_at data_at parts_at name_at name_within firsts redirection.staying_from rrsig_of name_in labels_in blocks_in signs least_ttl opt_of first_opt do_cname_dname
wildcard_answers = refl

-- without its denial it isn't to be relied on
wildcard_alone : told (alone w 11 replies (message_of 0 2 0 named 1 expanded)) ≡ Some (bogus, Some NoDenialProof, [])
unfolding cover_from longest judged_all search common questions_of answers_of authorities_of many_of question_at record_at data_at parts_at name_at name_within firsts redirection.staying_from rrsig_of name_in labels_in blocks_in signs least_ttl opt_of first_opt do_cname_dname
wildcard_alone = refl

-- the wildcard itself needs none
wildcard_itself : told (alone w 11 replies (message_of 0 2 0 starred 1 (signed starred 1 1 (192 ∷ 0 ∷ 2 ∷ 1 ∷ [])))) ≡ Some (secure, None, [])
unfolding longest judged_all search common questions_of answers_of authorities_of many_of question_at record_at data_at parts_at name_at name_within firsts redirection.staying_from rrsig_of name_in labels_in blocks_in signs least_ttl opt_of first_opt do_cname_dname
wildcard_itself = refl
