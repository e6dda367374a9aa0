use Rattle.std.proofs.Common.{◌++◌, [], List, ℕ, false, map, ap, sym, ◌∙◌, Option}
use Rattle.dsec_spec.specs.Names.{Labels, place}
use Rattle.dsec_hashed.specs.Config.{hashing_of}
use Rattle.dsec_hashed.specs.HashedList.{empty_at, new_above}
use Rattle.dsec_hashed.specs.HashedTypes.{hashed_as}
use Rattle.dsec_hashed.specs.HashedViews.{hashed_view}
use Rattle.dsec_hashed.proofs.AboveSteps.{new_from, above_parent, above_more, empty_as}
use Rattle.dsec_hashed.proofs.Views.{pushed}
use Rattle.dsec_hashed.proofs.names.push_empty.Goals as goal

pub loop-above-init : goal.loop-above-init
loop-above-init c = rw (c.in_ok-above.ensures) (above_parent (hashing_of c.args.config.now) (place c.args.apex.now) (place c.args.before.now) c.args.name.now (map hashed_view c.args.all.now.items))

pub loop-above-preserved : goal.loop-above-preserved
loop-above-preserved c =
    let how = hashing_of c.args.config.now in
    let apex = place c.args.apex.now in
    let before = place c.args.before.now in
    let old = map hashed_view c.loop-above.all.items in
    let all = map hashed_view c.args.all.now.items ++ map (λ n. hashed_as how (empty_at n)) (new_above apex before c.args.name.now) in
    above_more how apex before c.in-Some.one c.in_ok-above-2.above old (map hashed_view c.push.new.self.items) all (sym c.is_new.ensures ∙ c.if-not-is_new.false)
    c.in_ok-above-2.ensures
    (pushed c.loop-above.all.items c.push.new.self.items _ (hashed_as how (empty_at c.in-Some.one)) c.in_ok-push.ensures.items (ap (λ (h : List ℕ). record { hash = h; records = []; cut = false }) c.hash_in.ensures))
    (sym (ap (λ (o : Option Labels). old ++ map (empty_as how apex before) (new_from apex before o)) c.in-Some.is) ∙ c.loop-above.invariant)
