-- What a message begins with: in step with the recursion, sound, and refused only where it can't be read.
use Rattle.std.proofs.Common.{◌≡◌, ℕ, List, [], Option, Some, None, Result, Ok, Err, refl, sym, ap, ◌∙◌, subst}
use Rattle.dsec_spec.specs.Records.{Record}
use Rattle.dsec_spec.specs.Messages.{Question}
use Rattle.dsec_spec.specs.Groups.{Group, groups_of}
use Rattle.dsec_spec.specs.Redirection.{moved}
use Rattle.dsec_nodes.specs.World.{World, Replies}
use Rattle.dsec_nodes.specs.Causes.{TooManyUnsignedCnames}
use Rattle.dsec_nodes.specs.Machine.{begin}
use Rattle.dsec_nodes.specs.Outcomes.{Outcome, by_nothing, bogus_by}
use Rattle.dsec_nodes.specs.Alone.{Refusal, unreadable, on_groups, on_sections, sections_of, alone}
use Rattle.dsec_course.specs.Course.{Course, CourseAnswers, groups_in, walks_in}
use Rattle.dsec_course.specs.Advancing.{begun_with, begun_by, begun}
use Rattle.dsec_course.specs.Agreeing.{CourseInStep}
use Rattle.dsec_course.specs.Justified.{SoundCourse}
use Rattle.dsec_course.proofs.GroupLaws.{on_both}

-- a message whose sections can be read begins in step
pub begun_in_step : (w : World) (most : ℕ) (message : List ℕ) (c : Course) → begun w.anchors most message ≡ Ok c → CourseInStep w most message c
begun_in_step w most message c e = by_sections (sections_of message) refl e
  where
    Sections : Type 0
    Sections = List Question × List Record × List Record

    known : (s : Sections) (r : Result Outcome Refusal) → sections_of message ≡ Some s
        → ((replies : Replies) → on_sections w most replies message (Some s) ≡ r) → (replies : Replies) → alone w most replies message ≡ r
    known s r f g replies = ap (on_sections w most replies message) f ∙ g replies

    by_moved : (s : Sections) → sections_of message ≡ Some s → (m : Option (List Group))
        → moved w.anchors most (groups_of s.1) ≡ m → CourseInStep w most message (begun_with most message s.0 m (groups_of s.2))
    by_moved s f None g = known s (Ok (bogus_by TooManyUnsignedCnames by_nothing)) f (λ replies.
        ap (λ (m : Option (List Group)). on_groups w most replies message s.0 m (groups_of s.2)) g)
    by_moved s f (Some answers) g = λ like replies a.
        on_both w most replies message s.0 answers (groups_of s.2)
        ∙ sym (ap (on_sections w most replies message) f
        ∙ ap (λ (m : Option (List Group)). on_groups w most replies message s.0 m (groups_of s.2)) g)

    by_sections : (x : Option Sections) → sections_of message ≡ x → begun_by w.anchors most message x ≡ Ok c → CourseInStep w most message c
    by_sections None f g = absurd cc
    by_sections (Some s) f g =
        let same : begun_with most message s.0 (moved w.anchors most (groups_of s.1)) (groups_of s.2) ≡ c = cc in
        subst (CourseInStep w most message) same (by_moved s f (moved w.anchors most (groups_of s.1)) refl)

-- a message whose sections can be read begins soundly
pub begun_sound : (w : World) (most : ℕ) (message : List ℕ) (c : Course) → begun w.anchors most message ≡ Ok c → SoundCourse w most message c
begun_sound w most message c e = by_sections (sections_of message) refl e
  where
    Sections : Type 0
    Sections = List Question × List Record × List Record

    by_moved : (s : Sections) → sections_of message ≡ Some s → (m : Option (List Group)) → moved w.anchors most (groups_of s.1) ≡ m
        → SoundCourse w most message (begun_with most message s.0 m (groups_of s.2))
    by_moved s f None g = ((refl, tt), refl, refl)
    by_moved s f (Some answers) g = record {
      same_message = refl;
      same_most = refl;
      found = tt;
      sure = tt;
      paced = record { routes = refl; counted = tt };
      opened = record {
        answers = answers;
        authorities = groups_of s.2;
        read = record { sections = s; read = f; asks = refl; answers_are = g; authorities_are = refl };
        split = refl;
        in_order = refl;
      };
    }

    by_sections : (x : Option Sections) → sections_of message ≡ x → begun_by w.anchors most message x ≡ Ok c → SoundCourse w most message c
    by_sections None f g = absurd cc
    by_sections (Some s) f g =
        let same : begun_with most message s.0 (moved w.anchors most (groups_of s.1)) (groups_of s.2) ≡ c = cc in
        subst (SoundCourse w most message) same (by_moved s f (moved w.anchors most (groups_of s.1)) refl)

-- a course waits to begin, or to end, and has no walk
pub record HasNothing (c : Course) : Type 0 where
  pub begins : CourseAnswers c.waits begin
  pub no_walks : walks_in c ≡ []
  pub groups_are : groups_in c ≡ c.left

pub begun_waits : (anchors : List Record) (most : ℕ) (message : List ℕ) (c : Course) → begun anchors most message ≡ Ok c → HasNothing c
begun_waits anchors most message c e = by_sections (sections_of message) e
  where
    Sections : Type 0
    Sections = List Question × List Record × List Record

    by_moved : (s : Sections) (m : Option (List Group)) → HasNothing (begun_with most message s.0 m (groups_of s.2))
    by_moved s None = record { begins = tt; no_walks = refl; groups_are = refl }
    by_moved s (Some answers) = record { begins = tt; no_walks = refl; groups_are = refl }

    by_sections : (x : Option Sections) → begun_by anchors most message x ≡ Ok c → HasNothing c
    by_sections None g = absurd cc
    by_sections (Some s) g =
        let same : begun_with most message s.0 (moved anchors most (groups_of s.1)) (groups_of s.2) ≡ c = cc in
        subst HasNothing same (by_moved s (moved anchors most (groups_of s.1)))

-- a message is refused at the beginning exactly where it can't be read
pub record IsUnreadable (most : ℕ) (message : List ℕ) (e : Refusal) : Type 0 where
  pub refusal : e ≡ unreadable
  pub none : sections_of message ≡ None

pub begun_refused : (anchors : List Record) (most : ℕ) (message : List ℕ) (e : Refusal) → begun anchors most message ≡ Err e → IsUnreadable most message e
begun_refused anchors most message e f = by_sections (sections_of message) refl f
  where
    Sections : Type 0
    Sections = List Question × List Record × List Record

    by_sections : (x : Option Sections) → sections_of message ≡ x → begun_by anchors most message x ≡ Err e → IsUnreadable most message e
    by_sections None g h = record { refusal = (let same : unreadable ≡ e = cc in sym same); none = g }
    by_sections (Some s) g h = absurd cc

-- and then the recursion refuses it, by each table
pub refused_alone : (w : World) (most : ℕ) (replies : Replies) (message : List ℕ) (e : Refusal) → begun w.anchors most message ≡ Err e
    → alone w most replies message ≡ Err e
refused_alone w most replies message e f =
    let u = begun_refused w.anchors most message e f in
    ap (on_sections w most replies message) u.none ∙ ap (λ (x : Refusal). Err x) (sym u.refusal)

-- a message that can't be read is refused at the beginning
pub unreadable_refused : (anchors : List Record) (most : ℕ) (message : List ℕ) → sections_of message ≡ None → begun anchors most message ≡ Err unreadable
unreadable_refused anchors most message e = ap (begun_by anchors most message) e
