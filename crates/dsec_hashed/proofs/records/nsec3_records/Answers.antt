use Rattle.std.proofs.Common.{◌≡◌, ◌≤◌, ◌+◌, [], ◌∷◌, List, ℕ, drop, map, length, ap, sym, ◌∙◌, subst}
use Rattle.std.proofs.lemmas.List.{drop_all, drop_more}
use Rattle.std.specs.Option.{option_copied}
use Rattle.dsec_spec.specs.Records.{Record}
use Rattle.dsec_hashed.specs.Config.{hashing_of}
use Rattle.dsec_hashed.specs.HashedTypes.{Standing}
use Rattle.dsec_hashed.specs.HashedViews.{hashed_view}
use Rattle.dsec_hashed.specs.Nsec3Made.{IsMadeOf, hash_after}
use Rattle.dsec_hashed.specs.declared.names.HashedName.{HashedName}
use Rattle.dsec_hashed.proofs.Made.{GoesOn, one_more, all_made}
use Rattle.dsec_hashed.proofs.Views.{first_hash}
use Rattle.dsec_hashed.proofs.records.nsec3_records.Goals as goal

pub loop-i-init : goal.loop-i-init
loop-i-init c = rw (c.in_ok-nsec3s.ensures.items) (λ more h. h)

pub loop-i-preserved : goal.loop-i-preserved
loop-i-preserved c =
    let common = c.args.common.now in
    let how = hashing_of common.config.now in
    let names = c.args.names.now in
    let i = c.loop-i.i in
    let one = c.index-names-i.result in
    let first = hash_after [] (map hashed_view names) in
    let rest = map hashed_view (drop (i + 1) names) in
    let here : drop i names ≡ one ∷ drop (i + 1) names = drop_more names i one c.loop-i-test.true ∙ ap (λ (o : HashedName). o ∷ drop (i + 1) names) (sym c.index-names-i.is) in
    let next : c.next_hash-next.result.now ≡ hash_after first rest =
    c.next_hash-next.ensures ∙ (ap (λ (xs : List HashedName). hash_after c.in-Some.first.now.hash (map hashed_view xs)) c.split_at.ensures.back
    ∙ ap (λ (hash : List ℕ). hash_after hash rest) (sym (first_hash names c.in-Some.first.now (sym c.first.ensures.value ∙ ap option_copied c.in-Some.is)))) in
    subst (λ (made : List Record). GoesOn how common.apex.now common.class common.ttl first (map hashed_view names) rest made) (sym c.in_ok-push.ensures.items)
    (one_more how common.apex.now common.class common.ttl first (map hashed_view names) (hashed_view one) rest c.loop-i.nsec3s.items c.in_ok-nsec3_record.field-0
    (subst (λ (left : List Standing). GoesOn how common.apex.now common.class common.ttl first (map hashed_view names) left c.loop-i.nsec3s.items) (ap (map hashed_view) here) c.loop-i.invariant)
    (subst (λ (hash : List ℕ). IsMadeOf how common.apex.now common.class common.ttl (hashed_view one) hash c.in_ok-nsec3_record.field-0) next c.in_ok-nsec3_record.ensures))

pub returns : goal.returns
returns c =
    let common = c.args.common.now in
    let names = c.args.names.now in
    let how = hashing_of common.config.now in
    let first = hash_after [] (map hashed_view names) in
    let past : length names ≤ c.loop-i.i = c.loop-i-test.false in
    let none : map hashed_view (drop c.loop-i.i names) ≡ [] = ap (map hashed_view) (drop_all c.loop-i.i names past) in
    all_made how common.apex.now common.class common.ttl first (map hashed_view names) c.loop-i.nsec3s.items
    (subst (λ (rest : List Standing). GoesOn how common.apex.now common.class common.ttl first (map hashed_view names) rest c.loop-i.nsec3s.items) none c.loop-i.invariant)
