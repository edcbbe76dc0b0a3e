-- A machine that runs the codes of a loop's entry stands at the loop's nest.
use Rattle.std.proofs.Common.{◌≡◌, inl, ℕ, suc, ◌≤◌, List, [], ◌∷◌, length, map, Option, Some, None, refl, sym, ap, ◌∙◌, subst, ℤ, arith}
use Rattle.std.specs.Prelude.{sum, option_map}
use Rattle.std.specs.List.{cons_option, filter_map}
use Rattle.std.proofs.lemmas.List.{length-map}
use Rattle.fin_ir.specs.declared.expression.IExpr.{IExpr}
use Rattle.fin_ir.specs.declared.layout.Layout.{Layout}
use Rattle.fin_ir.specs.Machine.{Machine}
use Rattle.fin_ir.specs.Meaning.{meaning_all}
use Rattle.fin_looplet.specs.View.{Store, value}
use Rattle.fin_stage.specs.Staged.{Run, worked}
use Rattle.fin_read.specs.Steps.{assign_of, stepped, Agree}
use Rattle.fin_read.specs.Values.{Heads}
use Rattle.fin_read.proofs.Stepping.{agree_less, agree_then}
use Rattle.fin_nest.specs.Nests.{Nest}
use Rattle.fin_nest.specs.Related.{Start, Live, Related}
use Rattle.fin_nest.proofs.Statements.{all_append}
use Rattle.fin_perform.proofs.Valued.{steps_go}
use Rattle.fin_simp.specs.Rest.{Access}
use Rattle.fin_simp.specs.Sights.{driven_index}
use Rattle.fin_simp.specs.Work.{Driven, Mask, driven_at, length_of, entry_of}
use Rattle.fin_drive.specs.Entries.{Entry}
use Rattle.fin_enter.specs.Bounds.{BoundsMean}
use Rattle.fin_enter.specs.Charges.{entry_codes, known_of, AreLengths}
use Rattle.fin_enter.specs.Masked.{tested_among, as_mask}
use Rattle.fin_enter.specs.LoopEntry.{driven_count, known_by}
use Rattle.fin_enter.specs.Entering.{around_in, entry_steps, entry_lengths, entered_by, Enters}
use Rattle.fin_enter.specs.EntryCodes.{entry_code, EntriesAreKnown, IsEnteredAt, RunsEntry, EntryCodesEnter}
use Rattle.fin_enter.proofs.Charges.{entries_are_paid}
use Rattle.fin_enter.proofs.Masked.{masks_are_tests}
use Rattle.fin_enter.proofs.Entering.{entries_are_entrances}

-- a machine with other locals from a number on does what the run does, where that is behind the pinned ones
pub live_with : (s : Start) (pins : List ℤ) (r : Run) (m : Machine) (ks : List ℤ) (next : ℕ)
    → Live s pins r m → length ks ≡ length m.locals → Agree next ks m.locals → length pins ≤ next → Live s pins r (record m { locals = ks })
live_with s pins r m ks next live long kept le = record {
  cut = live.cut;
  regular = live.regular;
  shared = live.shared;
  charges = live.charges;
  locals = long ∙ live.locals;
  pinned = agree_then (length pins) ks m.locals pins (agree_less (length pins) next ks m.locals le kept) live.pinned;
  tensors = live.tensors;
  stages = live.stages;
  each = live.each;
  given = live.given;
  fits = live.fits;
}

-- ---- what is known of the loop where its code is made

-- what a list keeps of its items is as long whatever is made of them
kept_one : {Y Z : Type 0} (f : Y → Z) (o : Option Y) (zs : List Z) (ys : List Y) → length zs ≡ length ys → length (cons_option (option_map f o) zs) ≡ length (cons_option o ys)
kept_one f None zs ys same = same
kept_one f (Some y) zs ys same = ap (λ (n : ℕ). suc n) same

kept_length : {X Y Z : Type 0} (f : X → Y → Z) (g : X → Option Y) (xs : List X) → length (filter_map (λ (x : X). option_map (f x) (g x)) xs) ≡ length (filter_map g xs)
kept_length f g [] = refl
kept_length f g (x ∷ xs) = kept_one (f x) (g x) (filter_map (λ y. option_map (f y) (g y)) xs) (filter_map g xs) (kept_length f g xs)

pub entries_are_known : EntriesAreKnown
entries_are_known h e is =
    let loop = e.loop.loop in
    let reads : length loop.driven ≡ driven_count loop.var e.rest.reads =
    ap (λ (ds : List Driven). length ds) is.driven ∙ kept_length (driven_at e.world e.loop.vars e.run e.rest.changed) (λ (a : Access). driven_index loop.var a.at) e.rest.reads in
    let tests : length loop.masks ≡ length (tested_among loop.var e.rest.tests) =
    ap (λ (ms : List Mask). length ms) (is.masks ∙ masks_are_tests e.loop.vars loop.var e.rest.tests) ∙ length-map (tested_among loop.var e.rest.tests) (as_mask e.loop.vars) in
    omega (arith, reads, tests)

module _ (h : Heads) (e : Entry) (next : ℕ) (n : Nest Run) (layout : Layout) (s : Start) (pins : List ℤ) (r : Run) (m : Machine)
    (enters : Enters h e next n) (at : IsEnteredAt e s pins r m) (le : length pins ≤ next) where
  abbrev ks : List ℤ
  ks = (entered_by h e next).locals

  abbrev placed : Machine
  placed = record m { locals = ks }

  abbrev lengths : List IExpr
  lengths = entry_lengths h e next

  steps_are : meaning_all layout (map assign_of (entry_steps h e next)) m ≡ placed
  steps_are =
      let steps = entry_steps h e next in
      steps_go layout steps m at.live.cut
      ∙ ap (λ (ls : List ℤ). record m { locals = ls }) (ap (λ (ts : Store). stepped ts steps m.locals) (sym at.store) ∙ ap (stepped e.store steps) (sym at.locals))

  lengths_are : AreLengths e.loop.loop placed lengths
  lengths_are = record {
    numbers = enters.lengths.numbers;
    values = ap (λ (ts : Store). map (value ts ks) lengths) (sym at.store) ∙ enters.lengths.values;
    total = enters.lengths.total ∙ ap (λ (ds : List Driven). sum (map length_of ds)) (sym at.entered.driven);
  }

  live_placed : Live s pins r placed
  live_placed = live_with s pins r m ks next at.live (enters.long ∙ ap length at.locals) (subst (Agree next ks) at.locals enters.kept) le

  runs_entry : RunsEntry h e next layout s pins r m
  runs_entry =
      let known = known_by (around_in h e) e.rest e.loop.loop.chunks in
      let charge = entry_codes (known_of e.loop.loop) lengths in
      let pays = entries_are_paid e.loop.loop lengths layout placed (λ live. lengths_are) in
      let same : meaning_all layout (entry_code h e next) m ≡ meaning_all layout charge placed =
      all_append layout (map assign_of (entry_steps h e next)) (entry_codes known lengths) m
      ∙ ap (λ (k : ℕ). meaning_all layout (entry_codes k lengths) (meaning_all layout (map assign_of (entry_steps h e next)) m)) (sym (entries_are_known h e at.entered))
      ∙ ap (meaning_all layout charge) steps_are in
      record {
        runs = same ∙ pays.charges at.live.cut;
        related = subst (Related s pins (worked (entry_of e.loop.loop) r)) (sym same) (pays.related s pins r (inl live_placed));
      }

pub entry_codes_enter : BoundsMean → EntryCodesEnter
entry_codes_enter mean h sc e next n layout s pins r m can nest at le =
    let enters = entries_are_entrances mean h sc e next n can nest in
    (enters, runs_entry h e next n layout s pins r m enters at le)
