use Rattle.std.proofs.Common.{◌≡◌, ◌↔◌, ◌∷◌, [], ◌++◌, List, min, sym, subst, IsTrue}
use Rattle.fin_tensor.specs.declared.part.Part.{Part}
use Rattle.fin_tensor.specs.Lines.{AreLevels, AreFew, due}
use Rattle.fin_tensor.proofs.ByLines.{levels_more, count_more, few_tells}
use Rattle.fin_tensor.proofs.draft.Draft.with.Goals as goal

pub invariant_of-result : goal.invariant_of-result
invariant_of-result c =
    let d = c.args.self in
    let is : c.push.new.self ≡ d.parts ++ c.args.part ∷ [] = c.in_ok-push.ensures.ok in
    let count : c.next_count-count.result ≡ min (due d.shape (d.parts ++ c.args.part ∷ [])) 18446744073709551615 = count_more d.format.levels d.shape d.parts c.args.part d.shaped.long c.requires.level d.count c.next_count-count.result c.extent.result c.extent.ensures d.counted c.next_count-count.ensures c.requires.valid in
    record {
      placed = d.placed;
      bare = d.bare;
      shaped = d.shaped;
      levels = subst (λ (ps : List Part). AreLevels d.format.levels d.shape ps) (sym is) (levels_more d.format.levels d.shape d.parts c.args.part d.shaped.long c.requires.level d.levels c.requires.valid);
      counted = subst (λ (ps : List Part). c.next_count-count.result ≡ min (due d.shape ps) 18446744073709551615) (sym is) count;
      few_is = subst (λ (ps : List Part). IsTrue c.stays_few-few.result ↔ AreFew d.shape ps) (sym is) (few_tells d.format.levels d.shape d.parts c.args.part d.shaped.long c.requires.level d.few c.stays_few-few.result c.next_count-count.result d.few_is count c.stays_few-few.ensures);
    }
