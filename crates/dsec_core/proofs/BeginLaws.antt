-- What a message begins with is sound, and in step with the recursion.
use Rattle.std.proofs.Common.{◌≡◌, ℕ, List, Option, Some, None, Ok, refl, sym, subst}
use Rattle.dsec_spec.specs.Accepts.{Accepts}
use Rattle.dsec_spec.specs.Messages.{Question}
use Rattle.dsec_spec.specs.Records.{Record}
use Rattle.dsec_spec.specs.Groups.{Group, groups_of}
use Rattle.dsec_spec.specs.Redirection.{moved}
use Rattle.dsec_nodes.specs.World.{World}
use Rattle.dsec_nodes.specs.Alone.{sections_of}
use Rattle.dsec_node.specs.Configs.{Settings}
use Rattle.dsec_course.specs.Course.{Course}
use Rattle.dsec_course.specs.Advancing.{begun, begun_by, begun_with}
use Rattle.dsec_course.specs.Justified.{SoundCourse}
use Rattle.dsec_course.proofs.BeginningLaws.{begun_sound}
use Rattle.dsec_core.specs.Validating.{IsInZoneAt, IsSoundBy, Validating, most_of, world_by}

-- it is of the message, and no walk is waited for
pub record BeginsSo (message : List ℕ) (c : Course) : Type 0 where
  pub same_message : c.message ≡ message
  pub in_zone : (w : World) → IsInZoneAt w c.waits

pub begun_so : (anchors : List Record) (most : ℕ) (message : List ℕ) (c : Course) → begun anchors most message ≡ Ok c → BeginsSo message c
begun_so anchors most message c e = by_sections (sections_of message) e
  where
    Sections : Type 0
    Sections = List Question × List Record × List Record

    by_moved : (s : Sections) (m : Option (List Group)) → BeginsSo message (begun_with most message s.0 m (groups_of s.2))
    by_moved s None = record { same_message = refl; in_zone = λ w. tt }
    by_moved s (Some answers) = record { same_message = refl; in_zone = λ w. tt }

    by_sections : (x : Option Sections) → begun_by anchors most message x ≡ Ok c → BeginsSo message c
    by_sections None g = absurd cc
    by_sections (Some s) g =
        let same : begun_with most message s.0 (moved anchors most (groups_of s.1)) (groups_of s.2) ≡ c = cc in
        subst (BeginsSo message) same (by_moved s (moved anchors most (groups_of s.1)))

-- so it is sound whatever it is judged by
pub begun_sound_by : (accepts : Accepts) (anchors : List Record) (config : Settings) (moment : ℕ) (message : List ℕ) (c : Course)
    → begun anchors config.max_cname_dname message ≡ Ok c → IsSoundBy accepts (record { anchors = anchors; config = config; moment = moment; course = c })
begun_sound_by accepts anchors config moment message c e =
    let it : Validating = record { anchors = anchors; config = config; moment = moment; course = c } in
    let so = begun_so anchors config.max_cname_dname message c e in
    record {
      is_sound = subst (λ (m : List ℕ). SoundCourse (world_by accepts it) (most_of it) m c) (sym so.same_message) (begun_sound (world_by accepts it) (most_of it) message c e);
      in_zone = so.in_zone (world_by accepts it);
    }
