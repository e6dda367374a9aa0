use Rattle.std.proofs.Common.{◌≡◌, ◌≤◌, ◌++◌, ◌∷◌, ◌+◌, List, ℕ, length, drop, map, ap, sym, ◌∙◌}
use Rattle.std.proofs.lemmas.List.{drop_all, drop_more}
use Rattle.dsec_spec.specs.Names.{place}
use Rattle.dsec_chain.specs.Views.{inside_view}
use Rattle.dsec_chain.specs.declared.owners.InsideOwner.{InsideOwner}
use Rattle.dsec_hashed.specs.Config.{hashing_of}
use Rattle.dsec_hashed.specs.HashedList.{names_of}
use Rattle.dsec_hashed.specs.HashedTypes.{hashed_as}
use Rattle.dsec_hashed.specs.HashedViews.{hashed_view}
use Rattle.dsec_hashed.proofs.Views.{pushed, owner_more, owners_end}
use Rattle.dsec_hashed.proofs.names.hashed_names.Goals as goal

pub loop-owner-preserved : goal.loop-owner-preserved
loop-owner-preserved c =
    let how = hashing_of c.args.config.now in
    let apex = place c.args.apex.now in
    let before = place c.loop-owner.before.now in
    let owners = c.args.owners.now in
    let i = c.loop-owner.owner-index in
    let owner = c.owner-item.result in
    let here : drop i owners ≡ owner ∷ drop (i + 1) owners = drop_more owners i owner c.loop-owner-test.true ∙ ap (λ (o : InsideOwner). o ∷ drop (i + 1) owners) (sym c.owner-item.is) in
    owner_more how apex before (inside_view owner) (map inside_view (drop (i + 1) owners)) (map hashed_view c.loop-owner.all.items) (map hashed_view c.push.new.self.items) (map hashed_view c.push_empty.new.all.items)
    (map (hashed_as how) (names_of apex apex (map inside_view owners)))
    (pushed c.loop-owner.all.items c.push.new.self.items _ (hashed_as how (inside_view owner)) c.in_ok-push.ensures.items (ap (λ (h : List ℕ). record { hash = h; records = owner.records.now; cut = owner.is_cut }) c.hash_in.ensures))
    c.in_ok-push_empty.ensures
    (sym (ap (λ (os : List InsideOwner). map hashed_view c.loop-owner.all.items ++ map (hashed_as how) (names_of apex before (map inside_view os))) here) ∙ c.loop-owner.invariant)

pub returns : goal.returns
returns c =
    let how = hashing_of c.args.config.now in
    let apex = place c.args.apex.now in
    let owners = c.args.owners.now in
    let past : length owners ≤ c.loop-owner.owner-index = c.loop-owner-test.false in
    owners_end how apex (place c.loop-owner.before.now) (map inside_view (drop c.loop-owner.owner-index owners)) (map hashed_view c.loop-owner.all.items) (map (hashed_as how) (names_of apex apex (map inside_view owners)))
    (ap (map inside_view) (drop_all c.loop-owner.owner-index owners past)) c.loop-owner.invariant
