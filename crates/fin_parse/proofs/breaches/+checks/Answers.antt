use Rattle.std.proofs.Common.{◌≡◌, ◌+◌, map, drop, ap, ◌∙◌, arith, true, false}
use Rattle.std.specs.Option.{is_some}
use Rattle.fin_parse.specs.Names.{facts_of, scope_of, part_breaches, first_of, scope_within, part_at}
use Rattle.fin_parse.specs.Roles.{name_place}
use Rattle.fin_parse.proofs.Parts.{outer_found, outer_passed, inner_found, inner_passed, role_found, role_passed}
use Rattle.fin_parse.proofs.breaches.+checks.Goals as goal
use Rattle.fin_parse.proofs.breaches.+checks.Goals.{check_parts-then-left-gt0+in_ok-found, check_parts-else-left-gt0+in_ok-found-2}

pub check_parts-returns-then-is_some : goal.check_parts-returns-then-is_some
check_parts-returns-then-is_some t c =
    let f = facts_of c.args.names.now.text.now in let so = scope_of c.args.names.now.tensors.now c.args.outer.now in let si = scope_of c.args.names.now.tensors.now c.args.inner.now in
    let parts = c.args.parts.now in let i = c.loop-part.part-index in let u = c.part-item.result in let left = c.loop-part.left in
    let o = c.if-left-gt0.found in
    let there : true ≡ is_some o = c.if-is_some.ensures in
    record {
      first = elim c.if-left-gt0.branch [
        | check_parts-then-left-gt0+in_ok-found w ↦ outer_found f so si parts i u c.loop-part-test.true c.part-item.is left w.if-left-gt0.true o there (w.found-is ∙ w.in_ok-found.ensures.first) ∙ c.loop-part.invariant
        | check_parts-else-left-gt0+in_ok-found-2 w ↦ inner_found f so si parts i u c.loop-part-test.true c.part-item.is left (let z = w.if-left-gt0.false in omega arith) o there (w.found-is ∙ w.in_ok-found-2.ensures.first) ∙ c.loop-part.invariant
      ];
    }

pub check_parts-loop-part-preserved : goal.check_parts-loop-part-preserved
check_parts-loop-part-preserved t c =
    let f = facts_of c.args.names.now.text.now in let so = scope_of c.args.names.now.tensors.now c.args.outer.now in let si = scope_of c.args.names.now.tensors.now c.args.inner.now in
    let parts = c.args.parts.now in let i = c.loop-part.part-index in let u = c.part-item.result in let left = c.loop-part.left in
    let o = c.if-left-gt0.found in
    let gone : false ≡ is_some o = c.if-is_some.ensures in
    let less = ap (λ n. first_of (part_breaches n (drop (i + 1) (map f parts)) so si)) c.saturating_sub-left.ensures in
    elim c.if-left-gt0.branch [
      | check_parts-then-left-gt0+in_ok-found w ↦ less ∙ outer_passed f so si parts i u c.loop-part-test.true c.part-item.is left w.if-left-gt0.true o gone (w.found-is ∙ w.in_ok-found.ensures.first) ∙ c.loop-part.invariant
      | check_parts-else-left-gt0+in_ok-found-2 w ↦ less ∙ inner_passed f so si parts i u c.loop-part-test.true c.part-item.is left (let z = w.if-left-gt0.false in omega arith) o gone (w.found-is ∙ w.in_ok-found-2.ensures.first) ∙ c.loop-part.invariant
    ]

pub check_role-returns-then-is_some : goal.check_role-returns-then-is_some
check_role-returns-then-is_some t c =
    let text = c.args.names.now.text.now in let us = map (facts_of text) c.args.parts.now in let s = scope_of c.args.names.now.tensors.now c.args.place.now in
    let name_is : c.token_at-name.result ≡ (part_at us (name_place c.args.role)).token = c.token_at-name.ensures.value ∙ ap (λ n. (part_at us n).token) c.name_place.ensures.value in
    record { first = role_found text c.args.role us s c.token_at-name.result c.count_at.result c.named_breach-own.result name_is c.count_at.ensures.value c.named_breach-own.ensures.value c.if-is_some.ensures }

pub check_role-returns-in-Some : goal.check_role-returns-in-Some
check_role-returns-in-Some t c =
    let text = c.args.names.now.text.now in let us = map (facts_of text) c.args.parts.now in let tensors = c.args.names.now.tensors.now in let s = scope_of tensors c.args.place.now in
    let name_is : c.token_at-name.result ≡ (part_at us (name_place c.args.role)).token = c.token_at-name.ensures.value ∙ ap (λ n. (part_at us n).token) c.name_place.ensures.value in
    let inner_is : scope_of tensors c.in-Some.inner ≡ scope_within c.args.role c.token_at-name.result s = rw c.in-Some.is at (c.in_ok-inner.ensures.some tensors) in
    record { first = role_passed text c.args.role us s c.token_at-name.result c.count_at.result c.named_breach-own.result name_is c.count_at.ensures.value c.named_breach-own.ensures.value c.check_parts.result (scope_of tensors c.in-Some.inner) c.inner_from.result c.if-is_some.ensures inner_is c.inner_from.ensures.value c.check_parts.ensures.first }
