-- A loop's site, from that of its statement: what is known inside is words.
use Rattle.std.proofs.Common.{◌≡◌, ℕ, Bool, true, false, Option, Some, None, sym, subst, if◌then◌else◌}
use Rattle.std.specs.Prelude.{nat_eq, IfSome, ℤ}
use Rattle.fin_ast.specs.Literals.{are_worded}
use Rattle.fin_base.specs.Words.{IsWord}
use Rattle.fin_simp.specs.Facts.{marks}
use Rattle.fin_simp.specs.Work.{Context, inside, marks_within}
use Rattle.fin_simp.specs.Wording.{KnowsWords}
use Rattle.fin_loops.specs.Loops.{around}
use Rattle.fin_stmts.specs.declared.entered.Site.{Site}
use Rattle.fin_stmts.specs.Places.{IsPlaced, context_of}
use Rattle.fin_stmts.specs.Sites.{IsSite, loop_of}

unknown : (b : Bool) (o : Option ℤ) → IfSome o IsWord → IfSome (if b then None else o) IsWord
unknown true o h = tt
unknown false o h = h

words_inside : (ctx : Context) (var : ℕ) → IfSome ctx KnowsWords → KnowsWords (marks_within (inside ctx var None))
words_inside None var h = record { reads = λ k. tt; vars = λ x. tt }
words_inside (Some m) var h = record { reads = h.reads; vars = λ x. unknown (nat_eq x var) (m.vars x) (h.vars x) }

pub is_site : (s : Site) → marks s.around ≡ around (loop_of s) → are_worded s.one.body.now ≡ true → IsPlaced s.checked.now s.place → IsSite s
is_site s known worded placed = record {
  around = known;
  words = subst KnowsWords (sym known) (words_inside (context_of s.place) s.one.var placed.words);
  worded = worded;
  placed = placed;
}
