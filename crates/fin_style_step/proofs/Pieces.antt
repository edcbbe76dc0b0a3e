-- A piece of a region up to the stops: in a machine whose cursors are placed the part fits, shows what the nest
-- shows, and has its condition on jumpers.
use Rattle.std.proofs.Common.{◌≡◌, ℕ, ◌+◌, ◌<◌, ◌^◌, List, length, false, true, Option, refl, sym, ◌∙◌, subst, ℤ, pos, ◌+ℤ◌, ◌≤ℤ◌, ◌<ℤ◌, arith, inl}
use borrow.Author.Differences.{up, down, sum_is_lem, lt_out, le_out, below_in, at_most_in}
use Rattle.fin_ir.specs.declared.expression.IExpr.{IExpr}
use Rattle.fin_ir.specs.declared.layout.Layout.{Layout}
use Rattle.fin_ir.specs.Machine.{Machine, seen}
use Rattle.fin_looplet.specs.declared.looplet.Walker.{Walker}
use Rattle.fin_looplet.specs.declared.looplet.Looplet.{Looplet}
use Rattle.fin_looplet.specs.View.{Store, value}
use Rattle.fin_looplet.specs.Sound.{Near}
use Rattle.fin_looplet.specs.Lists.{AllSound}
use Rattle.fin_looplet.proofs.Exprs.{get, value_same}
use Rattle.fin_nest.specs.Nests.{Nest, Sense, Kept, Bounds, AllSoundIn, Jumps, Fits}
use Rattle.fin_nest.proofs.Folds.{Shows}
use Rattle.fin_nest.proofs.Means.{near_in}
use Rattle.fin_nest.proofs.Jumping.{jumps_on}
use Rattle.fin_style_step.specs.Steps.{walkers, Among, stop_at, insides}
use Rattle.fin_style_step.proofs.Walks.{any_walks}
use Rattle.fin_style_step.proofs.Joints.{at_most}
use Rattle.fin_style_step.proofs.Placing.{Placed, cursor_among}
use Rattle.fin_style_step.proofs.Insides.{Between, Set, child_sees, insides_like, insides_sound}
use Rattle.fin_style_step.proofs.Narrowing.{part_nest}
use Rattle.fin_style_step.proofs.Loops.{Loop, Lo, Hi, cursor_room}

module _ {S : Type 0} {layout : Layout} {sense : Sense S} {n : Nest S} {kind : Looplet → Option Walker} {ts : Store} {s : S} {m0 : Machine} (g : Loop layout sense n kind ts s m0) where
  -- what a walker's stop comes to where its cursor is that of v
  pub stop_is : (v : ℤ) (now : List ℤ) → Placed ts m0.locals v now (walkers kind n.reads) → ((x : ℕ) → Kept n x → get now x ≡ get m0.locals x)
      → (w : Walker) → Among w (walkers kind n.reads) → value ts now w.stop ≡ stop_at ts m0.locals w v
  stop_is v now placed kept w a =
      value_same ts w.stop now _ (λ x h. child_sees ts m0.locals now v w x (cursor_room g w.cursor (cursor_among w (walkers kind n.reads) a)) (placed w a)
      (λ ne. kept x (g.apart.reads x ((any_walks kind g.walk n.reads w a).sees x ne (inl h)))))

  -- a stop is over its coordinate
  pub stop_over : (v : ℤ) → AllSound Near ts m0.locals n.reads (λ j. j <ℤ value ts m0.locals n.hi) v → (w : Walker) → Among w (walkers kind n.reads) → at_most (v +ℤ pos 1) (stop_at ts m0.locals w v)
  stop_over v sv w a =
      let h = (any_walks kind g.walk n.reads w a).sound ts m0.locals (Hi g) v sv in
      omega (arith, lt_out v (stop_at ts m0.locals w v) h.over, sum_is_lem v (pos 1))

  -- the machine x before the code of the part from v on and before e
  pub record Piece (lo hi : IExpr) (x : Machine) (v e : ℤ) : Type 0 where
    pub live : x.cut ≡ false
    pub long : length x.locals ≡ length m0.locals
    pub kept : (y : ℕ) → Kept n y → get x.locals y ≡ get m0.locals y
    pub steady : (t : ℕ) → n.steady t ≡ true → seen x t ≡ ts t
    pub placed : Placed ts m0.locals v x.locals (walkers kind n.reads)
    pub from : value ts x.locals lo ≡ v
    pub to : value ts x.locals hi ≡ e
    pub low : at_most (Lo g) v
    pub some : up v + down e < up e + down v
    pub end : at_most e (Hi g)
    pub stops : (w : Walker) → Among w (walkers kind n.reads) → at_most e (stop_at ts m0.locals w v)

  module _ (lo hi : IExpr) (next : ℕ) (x : Machine) (v e : ℤ) (p : Piece lo hi x v e) where
    inside_lo : (i : ℤ) → v ≤ℤ i → Lo g ≤ℤ i
    inside_lo i b = at_most_in (Lo g) i (omega (arith, le_out v i b, p.low))

    inside_hi : (i : ℤ) → i <ℤ e → i <ℤ Hi g
    inside_hi i c = below_in i (Hi g) (omega (arith, lt_out i e c, p.end))

    sound_v : AllSound Near ts m0.locals n.reads (λ j. j <ℤ value ts m0.locals n.hi) v
    sound_v = g.fits.sound v (at_most_in (Lo g) v p.low) (below_in v (Hi g) (omega (arith, p.some, p.end)))

    sets : (w : Walker) → Among w (walkers kind n.reads) → Set ts m0.locals x.locals v e w
    sets w a = record { room = cursor_room g w.cursor (cursor_among w (walkers kind n.reads) a); placed = p.placed w a; over = p.stops w a }

    between : (i : ℤ) → v ≤ℤ i → i <ℤ e → Between ts m0.locals x.locals n.hi v e i
    between i b c = record {
      long = p.long;
      top = value_same ts n.hi x.locals m0.locals (λ y h. p.kept y (g.apart.hi y h));
      near = near_in (Lo g) (Hi g) i g.fits.bounds (inside_lo i b) (inside_hi i c);
      from = b;
      under_hi = inside_hi i c;
      under = c;
      end = p.end;
    }

    pub piece_shows : Shows ts m0.locals x.locals n (part_nest n lo hi next (insides kind n.hi n.reads)) v e
    piece_shows = record {
      lo = p.from;
      hi = p.to;
      like = λ i b c. insides_like ts m0.locals x.locals n.hi v e i (between i b c) kind g.walk n.reads (value ts x.locals hi) sets (λ y f. p.kept y (g.apart.reads y f)) sound_v (g.fits.sound i (inside_lo i b) (inside_hi i c));
    }

    piece_sound : AllSoundIn ts x.locals (insides kind n.hi n.reads) (value ts x.locals lo) (value ts x.locals hi)
    piece_sound i low lt =
        let b = subst (λ z. z ≤ℤ i) p.from low in
        let c = subst (λ z. i <ℤ z) p.to lt in
        let q = insides_sound ts m0.locals x.locals n.hi v e i (between i b c) kind g.walk n.reads sets (λ y f. p.kept y (g.apart.reads y f)) sound_v (g.fits.sound i (inside_lo i b) (inside_hi i c)) in
        subst (λ z. AllSound Near ts x.locals (insides kind n.hi n.reads) (λ j. j <ℤ z) i) (sym p.to) q

    piece_bounds : Bounds v e
    piece_bounds =
        let f = g.fits.bounds in
        record {
          low = at_most_in (pos 0) v (omega (arith, le_out (pos 0) (Lo g) f.low, p.low));
          low_top = at_most_in v (pos (2 ^ 40)) (omega (arith, le_out (Hi g) (pos (2 ^ 40)) f.high_top, p.some, p.end));
          high = at_most_in (pos 0) e (omega (arith, le_out (pos 0) (Lo g) f.low, p.low, p.some));
          high_top = at_most_in e (pos (2 ^ 40)) (omega (arith, le_out (Hi g) (pos (2 ^ 40)) f.high_top, p.end));
        }

    pub piece_fits : Fits layout ts x (part_nest n lo hi next (insides kind n.hi n.reads))
    piece_fits = record {
      live = p.live;
      locals = p.long ∙ g.fits.locals;
      steady = p.steady;
      pinned = λ y z h. p.kept y (g.apart.pins y z h) ∙ g.fits.pinned y z h;
      bounds = subst (λ z. Bounds z (value ts x.locals hi)) (sym p.from) (subst (λ z. Bounds v z) (sym p.to) piece_bounds);
      sound = piece_sound;
    }

    pub piece_jumps : Jumps sense ts x.locals (part_nest n lo hi next (insides kind n.hi n.reads))
    piece_jumps =
        jumps_on sense ts m0.locals x.locals n (part_nest n lo hi next (insides kind n.hi n.reads)) v e refl piece_shows g.from
        (at_most_in (Lo g) v p.low) (at_most_in e (Hi g) p.end) g.jumps
