-- One frame enters its handler: what the moves of the code leave is what `enter` says.
use Rattle.std.specs.Prelude.{◌≡◌, refl, ℕ, ◌+◌, ◌<◌, ◌≤◌, length, get_or}
use Rattle.std.proofs.Common.{sym, ap, subst, ◌∙◌, arith}
use mathlib.Core.List.{List, [], ◌∷◌, ◌++◌, reverse, reverse-cons, append_assoc}
use Rattle.std.proofs.lemmas.List.{get_or_at}
use Rattle.cells.specs.Cells.{null, room, cells}
use Rattle.cells.specs.CellsLaws.{length_cells}
use Rattle.cells.specs.declared.Cell.{Cell}
use Rattle.machine.specs.Values.{Program}
use Rattle.machine.specs.Machine.{Frame, lucia, host, effect_callback, parse, enter}
use Rattle.memory.specs.Layout.{Written, written, flat}
use Rattle.moves.specs.Runs.{Top, Turns, Stands, Settles, end_of, opened, opened_top, top_length, place_top, pushed, pushed_all, clear_handlers, with_place, with_counts, no_handler}
use Rattle.moves.specs.Frames.{live_stands, stands_live, kept_stack, kept_in, kept_opened, kept_lucia}
use Rattle.moves.specs.Handlers.{First, target_at}
use Rattle.moves.specs.declared.Running.{Running}
use Rattle.arguments.specs.Laws.{pushes_same}
use Rattle.plan.specs.Plans.{taken_count}
use Rattle.plan.specs.Parsed.{Pushes}
use Rattle.plan.specs.declared.Params.{Params}
use Rattle.captures.specs.Entered.{EnterableWhere, Enterable, LuciaEnterable, CallbackEnterable, Enters, LuciaEnters, CallbackEnters}

-- ---- The kind of the frame that stands at a place
tag_is : {w : Written} {pre L : List Cell} (b : ℕ) → Stands w pre L → b ≡ length pre → (get_or L b null).tag ≡ w.kind
tag_is {w} {pre} {L} b o e = ap (λ (c : Cell). c.tag) (ap (λ (l : List Cell). get_or l b null) o.is ∙ get_or_at pre _ _ null b (sym e))

-- ---- What a frame becomes
lucia_entered : (P : Program) (e k : Cell) (args : List Cell) (f : Frame) {j t : ℕ} → (written f).kind ≡ 64 → First P e (written f).handlers j → t ≡ (get_or (written f).handlers j no_handler).target
    → with_place t (pushed e (pushed_all args (pushed k (clear_handlers (written f))))) ≡ written (enter P e k args f)
unfolding written enter
lucia_entered P e k args (lucia c q l s hs) {j} i h t = ap (λ (n : ℕ). written (lucia c n l (e ∷ reverse args ++ k ∷ s) [])) (t ∙ sym (target_at P e hs j h))
lucia_entered P e k args (host n w s hs) i h t = absurd (omega arith)
lucia_entered P e k args (effect_callback x s hs) i h t = absurd (omega arith)

reverse_two : (e k : Cell) (args : List Cell) → reverse args ++ (k ∷ e ∷ []) ≡ reverse (e ∷ k ∷ args)
reverse_two e k args = sym (reverse-cons e (k ∷ args) ∙ ap (λ (l : List Cell). l ++ (e ∷ [])) (reverse-cons k args) ∙ append_assoc (reverse args) (k ∷ []) (e ∷ []))

callback_entered : (P : Program) (e k : Cell) (args : List Cell) (f : Frame) → ((written f).kind ≡ 64 → ⊥)
    → pushed_all args (pushed k (pushed e (clear_handlers (kept_stack (written f))))) ≡ written (enter P e k args f)
unfolding written enter
callback_entered P e k args (lucia c q l s hs) i = absurd (i refl)
callback_entered P e k args (host n w s hs) i = ap (λ (st : List Cell). written (host n w st [])) (reverse_two e k args)
callback_entered P e k args (effect_callback x s hs) i = ap (λ (st : List Cell). written (effect_callback x st [])) (reverse_two e k args)

-- ---- `enter_lucia`
pub lucia_enters : {base j target : ℕ} {e k : Cell} {p : Params} {list : ℕ} {args : List Cell} {old m₁ m₂ m₃ m₄ new : List ℕ} {g a b c d : Running} → g ≡ opened (cells old) base
    → ((w : Written) (pre : List Cell) → Top w pre g (cells old) → target ≡ (get_or w.handlers j no_handler).target)
    → Turns clear_handlers g old a m₁ → Turns (pushed k) a m₁ b m₂ → Pushes p list args b m₂ c m₃ → Turns (pushed e) c m₃ d m₄
    → Settles (record { base = d.base; locals = d.locals; handlers = d.handlers; stack = d.stack; place = target }) m₄ new
    → LuciaEnters base j e k p list args old new
lucia_enters {base} {j} {target} {e} {k} {p} {list} {args} {old} {m₄ = m₄} {new} {g} {d = d} q t u v x y z = record {
  live = λ P f below s o at h r.
      let o₁ : Top (written f) (flat below) g (cells old) = rw q (opened_top base (live_stands o) at) in
      let A : List Cell = (parse p.variadic p.count args s).args in
      let o₂ = y.top _ _ ((x.turns s r).top _ _ (v.top _ _ (u.top _ _ o₁))) in
      stands_live (subst (λ (w : Written). Stands w (flat below) (cells new)) (lucia_entered P e k A f h.1 h.0 (t _ _ o₁)) (z.stands _ _ (place_top o₂ target)));
  same = let w = pushes_same x in record { rest = z.rest ∙ y.rest ∙ w.rest ∙ v.rest ∙ u.rest; len = z.len ∙ y.len ∙ w.len ∙ v.len ∙ u.len };
}

-- ---- `enter_callback`
pub callback_enters : {base : ℕ} {e k : Cell} {p : Params} {list : ℕ} {args : List Cell} {old m₁ m₂ m₃ m₄ new : List ℕ} {g a b c d : Running} → g ≡ kept_in (cells old) base
    → Turns clear_handlers g old a m₁ → Turns (pushed e) a m₁ b m₂ → Turns (pushed k) b m₂ c m₃ → Pushes p list args c m₃ d m₄ → Settles d m₄ new
    → CallbackEnters base e k p list args old new
callback_enters {base} {e} {k} {p} {list} {args} {old} {new = new} {g} q u v x y z = record {
  live = λ P f below s o at h r.
      let o₁ : Top (kept_stack (written f)) (flat below) g (cells old) = rw q (kept_opened base (live_stands o) at) in
      let A : List Cell = (parse p.variadic p.count args s).args in
      stands_live (subst (λ (w : Written). Stands w (flat below) (cells new)) (callback_entered P e k A f h) (z.stands _ _ ((y.turns s r).top _ _ (x.top _ _ (v.top _ _ (u.top _ _ o₁))))));
  same = let w = pushes_same y in record { rest = z.rest ∙ w.rest ∙ x.rest ∙ v.rest ∙ u.rest; len = z.len ∙ w.len ∙ x.len ∙ v.len ∙ u.len };
}

-- ---- `enter`: the tag tells which
-- the same frame, of which something else is known
also : {Q R : Frame → Type 0} {base n list : ℕ} {p : Params} {old : List ℕ} (o : EnterableWhere Q base p n list old) → R o.frame → EnterableWhere R base p n list old
also o r = record { frame = o.frame; below = o.below; live = o.live; at = o.at; is = r; fits = o.fits; enough = o.enough; handle = o.handle }

module _ {base j list : ℕ} {p : Params} {old : List ℕ} {t : ℕ} (q : t ≡ (get_or (cells old) base null).tag) where
  pub enter_lucia : {n : ℕ} → t ≡ 64 → Enterable base j p n list old → LuciaEnterable base j p n list old
  enter_lucia r o = also o (o.is, sym (tag_is base (live_stands o.live) o.at) ∙ sym q ∙ r)

  pub enter_callback : {n : ℕ} → (t ≡ 64 → ⊥) → Enterable base j p n list old → CallbackEnterable base p n list old
  enter_callback r o = also o (λ k. r (q ∙ tag_is base (live_stands o.live) o.at ∙ k))

  module _ {e k : Cell} {args : List Cell} {new : List ℕ} where
    pub enters_lucia : t ≡ 64 → LuciaEnters base j e k p list args old new → Enters base j e k p list args old new
    enters_lucia r u = record {
      live = λ P f below s o at h. u.live P f below s o at (h, sym (tag_is base (live_stands o) at) ∙ sym q ∙ r);
      same = u.same;
    }

    pub enters_callback : (t ≡ 64 → ⊥) → CallbackEnters base e k p list args old new → Enters base j e k p list args old new
    enters_callback r u = record {
      live = λ P f below s o at h. u.live P f below s o at (λ i. r (q ∙ tag_is base (live_stands o) at ∙ i));
      same = u.same;
    }

-- ---- There is room for each move
pub head_fits_lem : {Q : Frame → Type 0} {base n list : ℕ} {p : Params} {old : List ℕ} → EnterableWhere Q base p n list old → base + 6 ≤ room old
head_fits_lem o = omega (arith, o.fits)

module _ {base j n list : ℕ} {p : Params} {old : List ℕ} {g : Running} (o : LuciaEnterable base j p n list old) (q : g ≡ opened (cells old) base) where
  -- a Lucia frame keeps all
  pub lucia_kept : g ≡ kept_in (cells old) base
  lucia_kept = kept_lucia (cells old) base q (tag_is base (live_stands o.live) o.at ∙ o.is.1)

  pub handler_fits_lem : j < g.handlers
  handler_fits_lem = omega (arith, o.is.0, ap (λ (h : Running). h.handlers) q, (opened_top base (live_stands o.live) o.at).counts.handlers)

module _ {Q : Frame → Type 0} {base n list : ℕ} {p : Params} {old : List ℕ} {g : Running} (o : EnterableWhere Q base p n list old) (q : g ≡ kept_in (cells old) base) where
  kept_there : Top (kept_stack (written o.frame)) (flat o.below) g (cells old)
  kept_there = rw q (kept_opened base (live_stands o.live) o.at)

  pub kept_fits : end_of g ≤ room old
  kept_fits = omega (arith, top_length kept_there, length_cells old)

  module _ {a : Running} {m₁ : List ℕ} (r₁ : a ≡ with_counts 0 g.stack g) (t₁ : Turns clear_handlers g old a m₁) where
    pub cleared_fits : end_of a + (taken_count p n + 2) ≤ room m₁
    cleared_fits =
        let k = kept_there in
        omega (arith, ap (λ (h : Running). end_of h) r₁, t₁.len, o.fits, o.at, k.base, k.counts.locals, k.counts.stack)

    module _ {v : Cell} {b : Running} {m₂ : List ℕ} (r₂ : b ≡ with_counts a.handlers (a.stack + 1) a) (t₂ : Turns (pushed v) a m₁ b m₂) where
      pub one_fits : end_of b + (taken_count p n + 1) ≤ room m₂
      one_fits = omega (arith, ap (λ (h : Running). end_of h) r₂, t₂.len, cleared_fits)

      -- a Lucia frame: the arguments, then the effect
      module _ {args : List Cell} {c : Running} {m₃ : List ℕ} (l : length args ≡ n) (x : Pushes p list args b m₂ c m₃) where
        pub parsed_fits : end_of c + 1 ≤ room m₃
        parsed_fits = omega (arith, ap (λ (h : Running). end_of h) x.registers, ap (taken_count p) l, (pushes_same x).len, one_fits)

        pub settle_fits : {w : Cell} {d : Running} {m₄ : List ℕ} → d ≡ with_counts c.handlers (c.stack + 1) c → Turns (pushed w) c m₃ d m₄ → d.base + 6 ≤ room m₄
        settle_fits {d = d} r₄ t₄ = omega (arith, ap (λ (h : Running). end_of h) r₄, t₄.len, parsed_fits)

      -- a callback frame: the continuation, then the arguments
      module _ {w : Cell} {c : Running} {m₃ : List ℕ} (r₃ : c ≡ with_counts b.handlers (b.stack + 1) b) (t₃ : Turns (pushed w) b m₂ c m₃) where
        pub two_fits : end_of c + taken_count p n ≤ room m₃
        two_fits = omega (arith, ap (λ (h : Running). end_of h) r₃, t₃.len, one_fits)

        pub all_fits : {args : List Cell} {d : Running} {m₄ : List ℕ} → length args ≡ n → Pushes p list args c m₃ d m₄ → g.place < 4294967296 → (d.base + 6 ≤ room m₄) × (d.place < 4294967296)
        all_fits {d = d} l x lt = (
          omega (arith, ap (λ (h : Running). end_of h) x.registers, ap (taken_count p) l, (pushes_same x).len, two_fits),
          omega (arith, ap (λ (h : Running). h.place) x.registers, ap (λ (h : Running). h.place) r₃, ap (λ (h : Running). h.place) r₂, ap (λ (h : Running). h.place) r₁),
        )
