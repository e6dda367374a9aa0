use Rattle.std.proofs.Common.{◌≡◌, ◌∙◌, ◌++◌, ◌∷◌, [], ap, sym, arith, ℕ, List, length}
use Rattle.std.specs.Prelude.{Some, vec_len}
use Rattle.std.specs.Option.{option_map}
use Rattle.std.specs.Borrow.{Bor}
use Rattle.dsec_name.specs.TextReading.{after_octets, read_label}
use Rattle.dsec_name.proofs.TextSteps.{label_after, pushed_long, pushed_short}
use Rattle.dsec_name.proofs.text.push_label.Goals as goal

pub returns-then-length-from-clause-label : goal.returns-then-length-from-clause-label
returns-then-length-from-clause-label c =
    let text = c.args.text.now in
    let old = c.args.octets.now.items in
    let new = c.push_octets.new.octets.items in
    let read : Some (new, c.in-Some.rest.now) ≡ after_octets (old ++ 0 ∷ []) (read_label text) =
    ap (option_map (λ (rest : Bor (List ℕ)). (new, rest.now))) (sym c.in-Some.is) ∙ (c.in_ok-rest.ensures.label ∙ ap (λ (x : List ℕ). after_octets x (read_label text)) c.in_ok-push.ensures.items) in
    let before : vec_len c.args.octets.now ≡ length old = c.args.octets.now.ok.0 in
    let after : vec_len c.push_octets.new.octets ≡ length new = c.push_octets.new.octets.ok.0 in
    let start = c.len-start.ensures in
    let end = c.len.ensures in
    let limit = c.from.ensures in
    pushed_long text old new c.in-Some.rest.now (label_after text old new c.in-Some.rest.now read) (omega arith)

pub returns-clause-label : goal.returns-clause-label
returns-clause-label c =
    let text = c.args.text.now in
    let old = c.args.octets.now.items in
    let new = c.push_octets.new.octets.items in
    let read : Some (new, c.in-Some.rest.now) ≡ after_octets (old ++ 0 ∷ []) (read_label text) =
    ap (option_map (λ (rest : Bor (List ℕ)). (new, rest.now))) (sym c.in-Some.is) ∙ (c.in_ok-rest.ensures.label ∙ ap (λ (x : List ℕ). after_octets x (read_label text)) c.in_ok-push.ensures.items) in
    let before : vec_len c.args.octets.now ≡ length old = c.args.octets.now.ok.0 in
    let after : vec_len c.push_octets.new.octets ≡ length new = c.push_octets.new.octets.ok.0 in
    let start = c.len-start.ensures in
    let end = c.len.ensures in
    let limit = c.from.ensures in
    let start_is : c.len-start.result ≡ length old = start ∙ before in
    rw start_is (pushed_short text old new c.in-Some.rest.now _ (label_after text old new c.in-Some.rest.now read) (omega arith) (omega arith) (omega arith))
