-- What the start of judging a message says of the call.
use Rattle.std.proofs.Common.{◌≡◌, ℕ, List, Option, None, Result, Ok, Err, refl, sym, ap, ◌∙◌, subst}
use Rattle.std.specs.Bool.{OnFalse}
use Rattle.dsec_spec.specs.Accepts.{Accepts}
use Rattle.dsec_spec.specs.Outside.{Table}
use Rattle.dsec_spec.specs.Records.{Record}
use Rattle.dsec_nodes.specs.World.{World, on_circle}
use Rattle.dsec_nodes.specs.Alone.{Refusal, unreadable, not_one_question}
use Rattle.dsec_node.specs.Configs.{Settings}
use Rattle.dsec_node.specs.Views.{bounds_of, world_of}
use Rattle.dsec_found.specs.declared.error.Error.{Error}
use Rattle.dsec_found.specs.declared.error.Error.TheVariants.{FormError, ParseError, NoMemory, InplaceError, OctetsConversion, PushError, PushNameError, ReadError, ShortMessage}
use Rattle.dsec_found.specs.Errors.{wants_memory}
use Rattle.dsec_course.specs.Course.{Course}
use Rattle.dsec_course.specs.Advancing.{begun}
use Rattle.dsec_course.proofs.BeginningLaws.{begun_refused, unreadable_refused}
use Rattle.dsec_cut.specs.Cuts.{to_rewrite}
use Rattle.dsec_core.specs.Validating.{Validating, begun_as, most_of, with_course, world_by}
use Rattle.dsec_context.specs.Outside.{Outside}
use Rattle.dsec_context.specs.Verdicts.{Verdict}
use Rattle.dsec_context.specs.Judgements.{Judgement, judgement_at, IsJudging}
use Rattle.dsec_context.specs.Checked.{IsJudgingWithin}
use Rattle.dsec_context.proofs.CallLaws.{ends_unread, ends_unbegun}

-- what was started has these parts, and is begun
pub record IsStarted (anchors : List Record) (config : Settings) (moment : ℕ) (message : List ℕ) (it : Validating) : Type 0 where
  pub begins : begun anchors config.max_cname_dname message ≡ Ok it.course
  pub same_anchors : it.anchors ≡ anchors
  pub same_config : it.config ≡ config
  pub same_moment : it.moment ≡ moment

pub started : (anchors : List Record) (config : Settings) (moment : ℕ) (message : List ℕ) (it : Validating)
    → begun_as anchors config moment (begun anchors config.max_cname_dname message) ≡ Ok it → IsStarted anchors config moment message it
started anchors config moment message it e = by (begun anchors config.max_cname_dname message) refl e
  where
    by : (r : Result Course Refusal) → begun anchors config.max_cname_dname message ≡ r → begun_as anchors config moment r ≡ Ok it
        → IsStarted anchors config moment message it
    by (Err x) f g = absurd cc
    by (Ok c) f g =
        let same : record { anchors = anchors; config = config; moment = moment; course = c } ≡ it = cc in
        record {
          begins = f ∙ ap (λ (v : Validating). Ok v.course) same;
          same_anchors = sym (ap (λ (v : Validating). v.anchors) same);
          same_config = sym (ap (λ (v : Validating). v.config) same);
          same_moment = sym (ap (λ (v : Validating). v.moment) same);
        }

-- so a call over what was started is one over its parts
pub started_call : (accepts : Accepts) (anchors : List Record) (config : Settings) (moment : ℕ) (message : List ℕ) (it : Validating) (table : Option Table)
    (before after : Outside) (j : Judgement) (from to : ℕ) → IsStarted anchors config moment message it
    → IsJudgingWithin (world_by accepts it) (most_of it) message table before after j from to
    → IsJudgingWithin (world_of accepts anchors (bounds_of config) moment) config.max_cname_dname message table before after j from to
started_call accepts anchors config moment message it table before after j from to s c =
    subst (λ (x : ℕ). IsJudgingWithin (world_of accepts anchors (bounds_of config) x) config.max_cname_dname message table before after j from to) s.same_moment
    (subst (λ (x : List Record). IsJudgingWithin (world_of accepts x (bounds_of config) it.moment) config.max_cname_dname message table before after j from to) s.same_anchors
    (subst (λ (x : Settings). IsJudgingWithin (world_of accepts it.anchors (bounds_of x) it.moment) x.max_cname_dname message table before after j from to) s.same_config c))

-- a judgement, by its answer and by the moment and the course of what was judged
abbrev judged_so : Result Verdict Error → ℕ → Course → Judgement
judged_so answer t c = record { answer = answer; groups = to_rewrite (on_circle t) c }

-- so a judgement over what was started is one over its parts
pub started_judged : (accepts : Accepts) (anchors : List Record) (config : Settings) (moment : ℕ) (message : List ℕ) (it last : Validating) (table : Option Table)
    (before after : Outside) (answer : Result Verdict Error) (j : Judgement) (from to : ℕ) → IsStarted anchors config moment message it
    → last ≡ with_course it last.course → j ≡ judged_so answer last.moment last.course
    → IsJudgingWithin (world_by accepts it) (most_of it) message table before after (judgement_at (world_by accepts it) last.course answer) from to
    → IsJudgingWithin (world_of accepts anchors (bounds_of config) moment) config.max_cname_dname message table before after j from to
started_judged accepts anchors config moment message it last table before after answer j from to s same is h =
    started_call accepts anchors config moment message it table before after j from to s
    (subst (λ (x : Judgement). IsJudgingWithin (world_by accepts it) (most_of it) message table before after x from to)
    (ap (λ (t : ℕ). judged_so answer t last.course) (sym (ap (λ (v : Validating). v.moment) same)) ∙ sym is) h)

-- with the anchors that these are
pub started_from : (own anchors : List Record) (config : Settings) (moment : ℕ) (message : List ℕ) (it : Validating) → own ≡ anchors
    → IsStarted own config moment message it → IsStarted anchors config moment message it
started_from own anchors config moment message it e s =
    record { begins = subst (λ (x : List Record). begun x config.max_cname_dname message ≡ Ok it.course) e s.begins; same_anchors = s.same_anchors ∙ e; same_config = s.same_config; same_moment = s.same_moment }

-- what was started has begun by its own settings
pub started_begins : (anchors : List Record) (config : Settings) (moment : ℕ) (message : List ℕ) (it : Validating)
    → IsStarted anchors config moment message it → begun it.anchors (most_of it) message ≡ Ok it.course
started_begins anchors config moment message it s =
    subst (λ (x : List Record). begun x (most_of it) message ≡ Ok it.course) (sym s.same_anchors)
    (subst (λ (x : Settings). begun anchors x.max_cname_dname message ≡ Ok it.course) (sym s.same_config) s.begins)

-- a message isn't started for no other reason than that it can't be read
only_unreadable : (anchors : List Record) (config : Settings) (moment : ℕ) (message : List ℕ) (e : Error) → (ParseError ≡ e → ⊥) → (r : Result Course Refusal)
    → begun anchors config.max_cname_dname message ≡ r → begun_as anchors config moment r ≡ Err e → ⊥
only_unreadable anchors config moment message e other (Ok c) f g = absurd cc
only_unreadable anchors config moment message e other (Err unreadable) f g = other (let same : ParseError ≡ e = cc in same)
only_unreadable anchors config moment message e other (Err not_one_question) f g =
    let u = (begun_refused anchors config.max_cname_dname message not_one_question f).refusal in absurd cc

-- a message that wasn't started
pub unstarted : (w : World) (anchors : List Record) (config : Settings) (moment : ℕ) (message : List ℕ) (table : Option Table) (before : Outside) (e : Error)
    → OnFalse (wants_memory e) (begun_as anchors config moment (begun anchors config.max_cname_dname message) ≡ Err e)
    → IsJudging w config.max_cname_dname message table before before (record { answer = Err e; groups = None })
unstarted w anchors config moment message table before NoMemory h = ends_unbegun w config.max_cname_dname message table before
unstarted w anchors config moment message table before ParseError h =
    by (begun anchors config.max_cname_dname message) refl h
  where
    by : (r : Result Course Refusal) → begun anchors config.max_cname_dname message ≡ r → begun_as anchors config moment r ≡ Err ParseError
        → IsJudging w config.max_cname_dname message table before before (record { answer = Err ParseError; groups = None })
    by (Ok c) f g = absurd cc
    by (Err unreadable) f g =
        ends_unread w config.max_cname_dname message table before
        (unreadable_refused w.anchors config.max_cname_dname message (begun_refused anchors config.max_cname_dname message unreadable f).none)
    by (Err not_one_question) f g = absurd cc
unstarted w anchors config moment message table before FormError h =
    absurd (only_unreadable anchors config moment message FormError (λ e. cc) (begun anchors config.max_cname_dname message) refl h)
unstarted w anchors config moment message table before (InplaceError x) h =
    absurd (only_unreadable anchors config moment message (InplaceError x) (λ e. cc) (begun anchors config.max_cname_dname message) refl h)
unstarted w anchors config moment message table before OctetsConversion h =
    absurd (only_unreadable anchors config moment message OctetsConversion (λ e. cc) (begun anchors config.max_cname_dname message) refl h)
unstarted w anchors config moment message table before PushError h =
    absurd (only_unreadable anchors config moment message PushError (λ e. cc) (begun anchors config.max_cname_dname message) refl h)
unstarted w anchors config moment message table before PushNameError h =
    absurd (only_unreadable anchors config moment message PushNameError (λ e. cc) (begun anchors config.max_cname_dname message) refl h)
unstarted w anchors config moment message table before ReadError h =
    absurd (only_unreadable anchors config moment message ReadError (λ e. cc) (begun anchors config.max_cname_dname message) refl h)
unstarted w anchors config moment message table before ShortMessage h =
    absurd (only_unreadable anchors config moment message ShortMessage (λ e. cc) (begun anchors config.max_cname_dname message) refl h)
