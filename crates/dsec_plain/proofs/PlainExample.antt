-- An ordinary reply, and so a message that is Secure: the address of `www.example.`, under the key of `example.` as the only anchor.
use Rattle.std.proofs.Common.{◌≡◌, ℕ, List, [], ◌∷◌, refl, arith, rules, ◌&&◌, ◌==◌, if◌then◌else◌}
use Rattle.std.specs.Prelude.{find, Some, None, false}
use Rattle.dsec_spec.specs.Names.{Labels, place, same_place}
use Rattle.dsec_spec.specs.Numbers.{DNSKEY}
use Rattle.dsec_spec.specs.RecordData.{parts_in, labels_in, name_in}
use Rattle.dsec_spec.specs.Records.{Record, rrsig_octets, rrsig_of}
use Rattle.dsec_spec.specs.Messages.{question_at, data_at, parts_at, record_at, questions_of, answers_of, authorities_of, opt_of, first_opt, rcode_of, Question}
use Rattle.dsec_spec.specs.WireNames.{name_within, name_at}
use Rattle.dsec_spec.specs.Reading.{many_of}
use Rattle.dsec_spec.specs.WrittenMessages.{Written, message_octets}
use Rattle.dsec_spec.specs.Groups.{Group, firsts, groups_of}
use Rattle.dsec_spec.proofs.ChainExample.{example, www, zone_key, key_set_sig, address_sig, accepts_two, anchor, key_set_sig_read, address_sig_read, key_set_signed, address_signed}
use Rattle.dsec_nodes.specs.World.{World, Replies}
use Rattle.dsec_nodes.specs.Replies.{sections, read_reply}
use Rattle.dsec_nodes.specs.Signing.{is_set_at}
use Rattle.dsec_nodes.specs.Alone.{sections_of}
use Rattle.dsec_nodes.specs.SoundOutcomes.{IsSound}
use Rattle.dsec_nodes.proofs.OutcomeLaws.{alone_sound}
use Rattle.dsec_plain.specs.PlainAnswers.{IsPlainAnswer, HasPlainKeys, IsSignedOnce}
use Rattle.dsec_plain.specs.Coming.{IsSecureBy}
use Rattle.dsec_plain.proofs.PlainLaws.{counts_all}
use Rattle.dsec_plain.proofs.Completeness.{complete}

-- the key's signature, and the address with its own
abbrev key_signature : Record
key_signature = record { owner = example; class = 1; rtype = 46; ttl = 3600; rdata = rrsig_octets key_set_sig }

abbrev address : Record
address = record { owner = www; class = 1; rtype = 1; ttl = 3600; rdata = 192 ∷ 0 ∷ 2 ∷ 1 ∷ [] }

abbrev address_signature : Record
address_signature = record { owner = www; class = 1; rtype = 46; ttl = 3600; rdata = rrsig_octets address_sig }

-- a reply without error to a question of class IN, with these answers and nothing else
abbrev reply_to : Labels → ℕ → List Record → Written
reply_to name rtype answers = record {
  id = 0;
  flags = 33792;
  questions = record { name = name; rtype = rtype; class = 1 } ∷ [];
  answers = answers;
  authorities = [];
  additionals = [];
}

abbrev key_reply_octets : List ℕ
key_reply_octets = message_octets (reply_to example 48 (anchor ∷ key_signature ∷ []))

-- the message: the address, asked for by its name and type
abbrev pub message : List ℕ
message = message_octets (reply_to www 1 (address ∷ address_signature ∷ []))

-- the one reply that there is
abbrev pub replies : Replies
replies name rtype = if same_place name (place example) && (rtype == DNSKEY) then Some key_reply_octets else None

-- at the moment 500
abbrev pub world : World
world = record {
  accepts = accepts_two;
  anchors = anchor ∷ [];
  bounds = record {
    room = 1;
    max_validity = 604800;
    max_bogus_validity = 30;
    max_ds_records = 4;
    max_keys_for_ds = 4;
    iterations_insecure = 100;
    iterations_bogus = 500;
    most_hashes = 60;
  };
  now = 500;
}

abbrev keys : Group
keys = record { owner = example; class = 1; rtype = 48; records = anchor ∷ []; signatures = key_signature ∷ []; extra = []; had_duplicate = false }

abbrev group : Group
group = record { owner = www; class = 1; rtype = 1; records = address ∷ []; signatures = address_signature ∷ []; extra = []; had_duplicate = false }

abbrev question : Question
question = record { name = www; rtype = 1; class = 1 }

-- ---- what is read

sections_read : sections_of message ≡ Some (question ∷ [], address ∷ address_signature ∷ [], [])
unfolding message_octets name_within name_at question_at parts_at data_at record_at many_of questions_of answers_of authorities_of
sections_read = refl

no_error : rcode_of message ≡ Some 0
unfolding message_octets name_within name_at question_at parts_at data_at record_at many_of questions_of answers_of authorities_of opt_of first_opt
no_error = refl

keys_read : read_reply (replies (place example) DNSKEY) ≡ sections (keys ∷ []) []
unfolding message_octets name_within name_at question_at parts_at data_at record_at many_of questions_of answers_of authorities_of firsts parts_in
keys_read = refl

keys_found : find (is_set_at (place example) DNSKEY) (keys ∷ []) ≡ Some keys
keys_found = refl

one_group : groups_of (address ∷ address_signature ∷ []) ≡ group ∷ []
unfolding firsts parts_in
one_group = refl

-- ---- what is signed

keys_once : IsSignedOnce world keys (place example) (zone_key ∷ [])
unfolding rrsig_of name_in labels_in
keys_once =
    record { signature = key_signature; one = refl; rrsig = key_set_sig; reads = key_set_sig_read; public_key = zone_key; matches_one = refl; signed = key_set_signed }

address_once : IsSignedOnce world group (place example) (zone_key ∷ [])
unfolding rrsig_of name_in labels_in
address_once =
    record { signature = address_signature; one = refl; rrsig = address_sig; reads = address_sig_read; public_key = zone_key; matches_one = refl; signed = address_signed }

has_keys : HasPlainKeys world replies keys
has_keys = record {
  anchor = anchor;
  only = refl;
  of_class = refl;
  of_type = refl;
  answers = keys ∷ [];
  authorities = [];
  replied = keys_read;
  found = keys_found;
  its_own = search rules;
  anchor_key = zone_key;
  reads = refl;
  signed = keys_once;
}

-- the message is an ordinary reply
pub is_plain : IsPlainAnswer world replies message
unfolding has_keys address_once
is_plain = record {
  keys = keys;
  has_keys = has_keys;
  question = question;
  section = address ∷ address_signature ∷ [];
  read = sections_read;
  no_error = no_error;
  group = group;
  one_group = one_group;
  at_question = record { at_name = refl; of_class = refl; of_type = refl };
  asks_for_a_set = λ e. absurd (omega (arith, e));
  has_records = omega arith;
  of_ds = λ e. absurd (omega (arith, e));
  signed = address_once;
  no_expansion = counts_all 2 www refl;
}

-- so it is Secure, however many bare CNAME records are followed
pub is_secure : (most : ℕ) → IsSecureBy world most replies message group
unfolding is_plain
is_secure most = complete world most replies message is_plain (omega arith)

-- and sound
pub is_sound : (most : ℕ) → IsSound world most message (is_secure most).outcome
is_sound most = let s = is_secure most in alone_sound world most replies message s.outcome s.comes_to s.is_secure
