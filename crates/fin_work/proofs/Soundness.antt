-- The run by pieces of an accepted program is sound.
use Rattle.std.proofs.Common.{◌≡◌, ◌≤◌, ℕ, zero, suc, pos, true, false, List, [], ◌∷◌, map, length, None, refl, sym, ap, ◌∙◌, subst, arith}
use Rattle.std.specs.Prelude.{IfSome}
use Rattle.fin_base.specs.Words.{IsWord}
use Rattle.fin_tensor.specs.declared.storage.Storage.{Storage}
use Rattle.fin_ast.specs.declared.checked.Checked.{Checked}
use Rattle.fin_ast.specs.declared.checked.Dims.{Dims}
use Rattle.fin_ast.specs.Accepted.{IsAccepted, FitProgram}
use Rattle.fin_ast.specs.Bindings.{bindings_of_all}
use Rattle.fin_ast.specs.Infer.{places_in}
use Rattle.fin_ast.specs.Modes.{mode_at_start}
use Rattle.fin_ast.specs.Scope.{outermost}
use Rattle.fin_ast.specs.Sizes.{ranges_of}
use Rattle.fin_ast.specs.Dense.{setting_of, unbound}
use Rattle.fin_ast.specs.Value.{number}
use Rattle.fin_ast.proofs.Unbroken.{first_none}
use Rattle.fin_life.specs.Passage.{breach_in, passages_of}
use Rattle.fin_stage.specs.Stages.{Stage, function_in}
use Rattle.fin_stage.specs.Staged.{Run, before_all, staged}
use Rattle.fin_stage.specs.Sound.{IsSound}
use Rattle.fin_stage.specs.Wordy.{IsWordTensor, IsWordy}
use Rattle.fin_stage.proofs.Alive.{Living}
use Rattle.fin_stage.proofs.AliveWhole.{given_is, no_breach, start as start_lives}
use Rattle.fin_stage.proofs.Fits.{nothing_fits, absent_at}
use Rattle.fin_stage.proofs.Ranges.{ranges_count}
use Rattle.fin_stage.proofs.Soundness.{accepted_is_sound}
use Rattle.fin_stage.proofs.Trailing.{run_itself}
use Rattle.fin_simp.specs.Numbered.{outset}
use Rattle.fin_simp.specs.Work.{World, world_of, pieced}
use Rattle.fin_work.specs.Following.{Follows}
use Rattle.fin_work.specs.Sound.{PiecedIsSound}
use Rattle.fin_work.proofs.Following.{from_trails, same_function}
use Rattle.fin_work.proofs.Holding.{Held}
use Rattle.fin_work.proofs.Known.{Table, nothing_right}
use Rattle.fin_work.proofs.Numbering.{texts, lookup, all_found, body_numbered}
use Rattle.fin_work.proofs.Pieced.{pieces_follow}
use Rattle.fin_work.proofs.Turning.{carried, Turning}

length_map : {A B : Type 0} (f : A → B) (xs : List A) → length (map f xs) ≡ length xs
length_map f [] = refl
length_map f (x ∷ xs) = ap suc (length_map f xs)

zero_words : (ranges : List (ℕ × ℕ)) (x : ℕ) → IsWord (number (map (λ r. pos 0) ranges) x)
zero_words [] x = omega arith
zero_words (r ∷ ranges) zero = omega arith
zero_words (r ∷ ranges) (suc x) = zero_words ranges x

module _ (c : Checked) (inputs : List Storage) (accepted : IsAccepted c) (fit : FitProgram c inputs) (wordy : IsWordy (setting_of c inputs)) where
  abbrev w : World
  w = world_of c inputs

  abbrev T : Table
  T = lookup (texts c.program.body outset).reads

  abbrev start : Run
  start = before_all c.program.headers

  enough : length (bindings_of_all c.program.body) ≤ length (unbound c.dims)
  enough =
      let e : c.dims.ranges ≡ ranges_of accepted.extents.extent (places_in c.program) = ap (λ (d : Dims). d.ranges) accepted.extents.numbers in
      omega (arith, ap length e, ranges_count accepted.extents.extent c.program.body, length_map (λ (r : ℕ × ℕ). pos 0) c.dims.ranges)

  held : Held c inputs fit wordy T None c.program.body outset (unbound c.dims) start start
  held = record {
    sc = outermost c.program.headers;
    next = 0;
    named = c.program.named;
    counts = c.program.numbered;
    enough = omega (arith, enough);
    below = λ k e. absurd (let x : false ≡ true = e in cc);
    worded = c.program.worded;
    numbers = zero_words c.dims.ranges;
    fits = nothing_fits (setting_of c inputs) c.program.headers;
    good = λ t. subst (λ (x : Stage). IfSome (function_in x) IsWordTensor) (sym (absent_at c.program.headers t)) tt;
    matches = all_found 0 (texts c.program.body outset).reads _ (body_numbered c.program.body outset);
    known = nothing_right w T c.program.body outset [] 0 (unbound c.dims) start;
    lived = record {
      begin = mode_at_start c.program.headers;
      now = mode_at_start c.program.headers;
      unbroken = first_none (breach_in (passages_of c.program.headers c.program.body) (mode_at_start c.program.headers) (mode_at_start c.program.headers)) _ (no_breach c inputs accepted fit);
      agreeing = record { given = given_is c inputs accepted fit; scoped = refl; long = Living.long (start_lives c inputs accepted fit); agree = Living.agree (start_lives c inputs accepted fit) };
    };
  }

  sound : IsSound c inputs
  sound = accepted_is_sound c inputs accepted fit

  follows : Follows (staged c inputs) (pieced c inputs)
  follows = pieces_follow w (Held c inputs fit wordy T) (Turning c inputs fit wordy T) (carried c inputs fit wordy T) c.program.body None outset (unbound c.dims) start start held (from_trails start start (run_itself start)) sound.regular

pub pieced_is_sound : PiecedIsSound
pieced_is_sound c inputs accepted fit wordy = record {
  follows = follows c inputs accepted fit wordy;
  regular = Follows.regular (follows c inputs accepted fit wordy) (IsSound.regular (sound c inputs accepted fit wordy));
  functions = λ t. same_function (staged c inputs) (pieced c inputs) (follows c inputs accepted fit wordy) t ∙ IsSound.functions (sound c inputs accepted fit wordy) t;
}
