use Rattle.std.proofs.Common.{◌≡◌, ◌∙◌, List, [], ◌∷◌, map, sym, ap, subst, rules}
use Rattle.dsec_spec.specs.CanonicalRecords.{IsCanonical}
use Rattle.dsec_spec.specs.Records.{Record}
use Rattle.dsec_sorted.specs.SetViews.{members_of}
use Rattle.dsec_rrsig.specs.Signers.{period_of, signer_of}
use Rattle.dsec_sign.specs.Places.{set_at}
use Rattle.dsec_sign.specs.SignerFaults.{AddsOfSet}
use Rattle.dsec_rrsig.specs.declared.error.SignError.TheVariants as sign
use Rattle.dsec_sign.specs.SignerAsks.{AreAsked, AreAskedAtMost, all_asked}
use Rattle.dsec_sign.proofs.AskSteps.{asked_at_most, asks_as}
use Rattle.dsec_sign.proofs.SignerSteps.{appended}
use Rattle.dsec_sign.proofs.signing.sign_one_behind.Goals as goal

pub sign_one-requires-clause-canonical : goal.sign_one-requires-clause-canonical
sign_one-requires-clause-canonical g c =
    let is : members_of c.members-members.result ≡ set_at c.args.records.now.items c.args.set =
    c.members-members.ensures ∙ ap (λ (xs : List Record). set_at xs c.args.set) c.deref.ensures.value in
    subst (λ (xs : List Record). IsCanonical xs) (sym is) c.requires.set.canonical

pub returns-clause-signed : goal.returns-clause-signed
returns-clause-signed g c =
    let old = c.args.records.now.items in
    let set = set_at old c.args.set in
    let signs = g.I.SignRaw.signs in
    let period = period_of c.args.config.now in
    let signers = map (signer_of g.I.SignRaw.key) c.args.keys.now in
    let is : members_of c.members-members.result ≡ set = c.members-members.ensures ∙ ap (λ (xs : List Record). set_at xs c.args.set) c.deref.ensures.value in
    let made =
    subst (λ (xs : List Record). AddsOfSet signs period set signers xs c.sign_one.new.out.items) c.requires.empty
    (subst (λ (xs : List Record). AddsOfSet signs period xs signers c.args.made.now.items c.sign_one.new.out.items) is c.in_ok-sign_one.ensures.signed) in
    appended signs period set signers c.sign_one.new.out.items old c.append.new.self.items made c.in_ok-append.ensures.items

pub returns-clause-asks : goal.returns-clause-asks
returns-clause-asks g c =
    let is : members_of c.members-members.result ≡ set_at c.args.records.now.items c.args.set =
    c.members-members.ensures ∙ ap (λ (xs : List Record). set_at xs c.args.set) c.deref.ensures.value in
    subst (λ (xs : List Record). AreAsked (period_of c.args.config.now) (xs ∷ []) (all_asked g.I.SignRaw.key g.I.SignRaw.asked g.I.SignRaw.given c.args.keys.now) (all_asked g.I.SignRaw.key g.I.SignRaw.asked g.I.SignRaw.given c.sign_one.new.keys)) is c.in_ok-sign_one.ensures.asks

pub returns-in_err-sign_one-clause-asks : goal.returns-in_err-sign_one-clause-asks
returns-in_err-sign_one-clause-asks g c =
    let is : members_of c.members-members.result ≡ set_at c.args.records.now.items c.args.set =
    c.members-members.ensures ∙ ap (λ (xs : List Record). set_at xs c.args.set) c.deref.ensures.value in
    let old = all_asked g.I.SignRaw.key g.I.SignRaw.asked g.I.SignRaw.given c.args.keys.now in
    let new = all_asked g.I.SignRaw.key g.I.SignRaw.asked g.I.SignRaw.given c.sign_one.new.keys in
    asks_as (period_of c.args.config.now) (set_at c.args.records.now.items c.args.set ∷ []) old new c.from_residual.result c.in_err-sign_one.field-0.0 (search rules)
    (subst (λ (xs : List Record). AreAskedAtMost (period_of c.args.config.now) (xs ∷ []) old new) is c.in_err-sign_one.ensures.asks)

pub returns-in_err-append-clause-asks : goal.returns-in_err-append-clause-asks
returns-in_err-append-clause-asks g c =
    let is : members_of c.members-members.result ≡ set_at c.args.records.now.items c.args.set =
    c.members-members.ensures ∙ ap (λ (xs : List Record). set_at xs c.args.set) c.deref.ensures.value in
    let old = all_asked g.I.SignRaw.key g.I.SignRaw.asked g.I.SignRaw.given c.args.keys.now in
    let new = all_asked g.I.SignRaw.key g.I.SignRaw.asked g.I.SignRaw.given c.sign_one.new.keys in
    let sets = set_at c.args.records.now.items c.args.set ∷ [] in
    asks_as (period_of c.args.config.now) sets old new c.from_residual-in_err-append.result sign.NoMemory (search rules)
    (asked_at_most (period_of c.args.config.now) sets old new (subst (λ (xs : List Record). AreAsked (period_of c.args.config.now) (xs ∷ []) old new) is c.in_ok-sign_one.ensures.asks))
