use Rattle.std.proofs.Common.{refl, sym, ap, ◌∙◌, arith}
use Rattle.fin_base.specs.declared.reduce.Reduce.TheVariants.{Add, Min, Max, And, Or, Xor}
use Rattle.std.specs.Int.{cast_unsigned, w64}
use Rattle.std.proofs.lemmas.Int.{to_z-of_z}
use Rattle.fin_seats.specs.Codes.{flip}
use Rattle.fin_atomic.proofs.Fetches.{fetches-add, fetches-min, fetches-max, fetches-and, fetches-or, fetches-xor}
use Rattle.fin_atomic.proofs.Moves.{reduces_plain, reduces_flipped}
use Rattle.fin_atomic.proofs.words.Words.fetch.Goals as goal

pub fetch_add-requires : goal.fetch_add-requires
fetch_add-requires c =
    let wide = c.args.self.now.wide.0 in
    let h = c.requires.table.1 in
    let x_is = c.cast_unsigned-plain.ensures ∙ ap (cast_unsigned w64) (to_z-of_z w64 c.args.v c.ranges.v) in
    (c.requires.table.0, h, reduces_plain c.args.self.now.table.shared.key Add (sym c.args.self.now.by_is.0 ∙ c.in-Add.is) fetches-add _ _ c.args.seat.now.me c.args.k c.args.v _ (x_is) refl c.ranges.v (omega arith) c.requires.seated)

pub fetch_and-requires : goal.fetch_and-requires
fetch_and-requires c =
    let wide = c.args.self.now.wide.0 in
    let h = c.requires.table.1 in
    let x_is = c.cast_unsigned-plain.ensures ∙ ap (cast_unsigned w64) (to_z-of_z w64 c.args.v c.ranges.v) in
    (c.requires.table.0, h, reduces_plain c.args.self.now.table.shared.key And (sym c.args.self.now.by_is.0 ∙ c.in-And.is) fetches-and _ _ c.args.seat.now.me c.args.k c.args.v _ (x_is) refl c.ranges.v (omega arith) c.requires.seated)

pub fetch_or-requires : goal.fetch_or-requires
fetch_or-requires c =
    let wide = c.args.self.now.wide.0 in
    let h = c.requires.table.1 in
    let x_is = c.cast_unsigned-plain.ensures ∙ ap (cast_unsigned w64) (to_z-of_z w64 c.args.v c.ranges.v) in
    (c.requires.table.0, h, reduces_plain c.args.self.now.table.shared.key Or (sym c.args.self.now.by_is.0 ∙ c.in-Or.is) fetches-or _ _ c.args.seat.now.me c.args.k c.args.v _ (x_is) refl c.ranges.v (omega arith) c.requires.seated)

pub fetch_xor-requires : goal.fetch_xor-requires
fetch_xor-requires c =
    let wide = c.args.self.now.wide.0 in
    let h = c.requires.table.1 in
    let x_is = c.cast_unsigned-plain.ensures ∙ ap (cast_unsigned w64) (to_z-of_z w64 c.args.v c.ranges.v) in
    (c.requires.table.0, h, reduces_plain c.args.self.now.table.shared.key Xor (sym c.args.self.now.by_is.0 ∙ c.in-Xor.is) fetches-xor _ _ c.args.seat.now.me c.args.k c.args.v _ (x_is) refl c.ranges.v (omega arith) c.requires.seated)

pub fetch_min-requires : goal.fetch_min-requires
fetch_min-requires c =
    let wide = c.args.self.now.wide.0 in
    let h = c.requires.table.1 in
    let x_is = c.cast_unsigned-plain.ensures ∙ ap (cast_unsigned w64) (to_z-of_z w64 c.args.v c.ranges.v) in
    (c.requires.table.0, h, reduces_flipped c.args.self.now.table.shared.key Min (sym c.args.self.now.by_is.0 ∙ c.in-Min.is) fetches-min _ _ c.args.seat.now.me c.args.k c.args.v _ (c.flipped.ensures.flipped ∙ ap flip x_is) refl c.ranges.v (omega arith) c.requires.seated)

pub fetch_max-requires : goal.fetch_max-requires
fetch_max-requires c =
    let wide = c.args.self.now.wide.0 in
    let h = c.requires.table.1 in
    let x_is = c.cast_unsigned-plain.ensures ∙ ap (cast_unsigned w64) (to_z-of_z w64 c.args.v c.ranges.v) in
    (c.requires.table.0, h, reduces_flipped c.args.self.now.table.shared.key Max (sym c.args.self.now.by_is.0 ∙ c.in-Max.is) fetches-max _ _ c.args.seat.now.me c.args.k c.args.v _ (c.flipped-in-Max.ensures.flipped ∙ ap flip x_is) refl c.ranges.v (omega arith) c.requires.seated)
