-- Laws on a turn: what stands in the buffers stays within them.
use mathlib.Core.Path.{◌≡◌, refl, sym, subst}
use mathlib.Core.Bool.{Bool, true, false, cond, ◌||◌}
use mathlib.Core.List.{List}
use Prim.Native.Nat.{ℕ}
use native.Mathlib.Omega.{arith}
use borrow.Author.Tests.{ltb-false}
use lib.Dec.{eqb, leb, ltb}
use lib.ListN.{length}
use lib.Seq.{length-slice}
use Rattle.std.specs.Prelude.{Option, Some, None}
use Rattle.std.specs.Option.{option_map}
use Rattle.replay.specs.Window.{Within, unread, size, advanced, readied, Ready}
use Rattle.replay.specs.Header.{header}
use Rattle.replay.specs.State.{Placed, moved, passed}
use Rattle.replay.specs.Turn.{taken, compared, resumed, asked, begun, sought, HEADER, follows, Stepped}
use Rattle.replay.specs.declared.window.Window.{Window}
use Rattle.replay.specs.declared.state.State.{State}
use Rattle.replay.specs.declared.header.Topic.{Topic}
use Rattle.replay.specs.declared.header.Section.{Section}
use Rattle.replay.specs.declared.header.Section.TheVariants.{List as Listed, Answer, Other}
use Rattle.replay.specs.declared.header.Header.{Header}
use Rattle.replay.specs.declared.Turn.{Turn}
use Rattle.replay.specs.declared.Turn.TheVariants.{On, Done}
use Rattle.replay.specs.declared.Next.{Next}
use Rattle.replay.specs.declared.Next.TheVariants.{Over, Take, Compare}
use Rattle.replay.proofs.Headers.{headed, header-start}

-- where a turn goes on, or a section is asked for, the state is right for buffers of k and m bytes
abbrev pub onward : ℕ → ℕ → Option Turn → Type 0
onward k m None = Unit
onward k m (Some (On s)) = Placed k m s
onward k m (Some (Done s)) = Unit

abbrev pub ahead : ℕ → ℕ → Option Next → Type 0
ahead k m None = Unit
ahead k m (Some (Over t)) = onward k m (Some t)
ahead k m (Some (Take s n)) = Placed k m s
ahead k m (Some (Compare s t n)) = Placed k m s

-- ## Reading on

pub ready_within : (b c : List ℕ) (n : ℕ) (v w : Window) → Within (length b) v → Ready b c n v w → Within (length c) w
ready_within b c n v w i = go (leb n (size v))
  where
    go : (q : Bool) → readied q b c v w → Within (length c) w
    go true r = rw (r.0, r.1) i
    go false r = record { order = omega (arith, r.start); room = r.room }

pub placed_ready : (b c : List ℕ) (n : ℕ) {m : ℕ} (s : State) (w : Window) → Placed (length b) m s
    → Ready b c n s.at w → Placed (length c) m (moved w s)
placed_ready b c n s w p r = record { unread = ready_within b c n s.at w p.unread r; list = p.list }

-- ## What a header asks for

module _ {k m : ℕ} (s : State) (p : Placed k m s) where
  begun_ahead : (h : Option Header) → headed s.at.to h → ahead k m (option_map (begun s) h)
  begun_ahead None h = tt
  begun_ahead (Some x) h = go x.section
    where
      next : Placed k m (resumed x.start s)
      next = record { unread = record { order = h; room = p.unread.room }; list = p.list }

      go : (y : Section) → ahead k m (Some (asked (resumed x.start s) y x.size))
      go Listed = next
      go (Answer t) = next
      go Other = record { unread = next.unread; list = next.list }

passed_placed : {k m : ℕ} (s : State) → Placed k m s → Placed k m (passed s)
passed_placed s p =
    record { unread = record { order = omega (arith, p.unread.order); room = p.unread.room }; list = p.list }

pub sought_ahead : (b : List ℕ) {m : ℕ} (s : State) → Placed (length b) m s → ahead (length b) m (sought b s)
sought_ahead b {m} s p =
    let all = length-slice s.at.from s.at.to b p.unread.room in
    let h = header-start s.at.from (unread b s.at) s.at.to (omega (arith, p.unread.order, all)) in
    go (passed_placed s p) (begun_ahead s p (header s.at.from (unread b s.at)) h) (eqb s.at.from s.at.to)
    (ltb 0 s.skip)
  where
    go : Placed (length b) m (passed s) → ahead (length b) m (option_map (begun s) (header s.at.from (unread b s.at)))
        → (x y : Bool)
        → ahead (length b) m
        (cond x (cond y None (Some (Over (Done s))))
        (cond y (Some (Over (On (passed s)))) (option_map (begun s) (header s.at.from (unread b s.at)))))
    go h i true true = tt
    go h i true false = tt
    go h i false true = h
    go h i false false = i

-- the same from the state before the bytes of a header were read
pub asked_ahead : (b d : List ℕ) {m : ℕ} (s : State) (w : Window) → Placed (length b) m s → Ready b d HEADER s.at w
    → (x : Option Next) → sought d (moved w s) ≡ x → ahead (length d) m x
asked_ahead b d {m} s w p r x e =
    subst (ahead (length d) m) e (sought_ahead d (moved w s) (placed_ready b d HEADER s w p r))

-- ## A section

module _ {k m : ℕ} (s : State) (p : Placed k m s) (n : ℕ) where
  past : ltb (size s.at) n ≡ false → Within k (advanced n s.at)
  past e = record { order = omega (arith, p.unread.order, ltb-false (size s.at) n e); room = p.unread.room }

  -- one whose bytes are not all there stops the replay
  stops : (x y : Bool) (t : State) → (x ≡ false → y ≡ false → Placed k m t)
      → onward k m (option_map On (cond (x || y) None (Some t)))
  stops true y t h = tt
  stops false true t h = tt
  stops false false t h = h refl refl

  pub taken-onward : onward k m (option_map On (taken m s n))
  taken-onward = stops (ltb m n) (ltb (size s.at) n) _ (λ e f. record { unread = past f; list = ltb-false m n e })

  pub compared-onward : (b l : List ℕ) (t : Topic) → onward k m (option_map On (compared b l s t n))
  compared-onward b l t = stops (eqb s.cases 0) (ltb (size s.at) n) _
      (λ e f. record { unread = past f; list = p.list })

-- ## A turn

follows-onward : (b c l m : List ℕ) (r : Option Turn) (x : Option Next) → ahead (length b) (length l) x
    → follows b c l m r x → onward (length c) (length l) r
follows-onward b c l m r None a f = subst (onward (length c) (length l)) (sym f.0) tt
follows-onward b c l m r (Some (Over t)) a f =
    subst (λ (x : List ℕ). onward (length x) (length l) r) (sym f.1)
    (subst (onward (length b) (length l)) (sym f.0) a)
follows-onward b c l m r (Some (Take s n)) a f =
    rw f.2 (taken-onward (moved f.0 s) (placed_ready b c n s f.0 a f.1) n)
follows-onward b c l m r (Some (Compare s t n)) a f =
    rw f.2 (compared-onward (moved f.0 s) (placed_ready b c n s f.0 a f.1) n c l t)

pub stepped_onward : (b c l m : List ℕ) (s : State) (r : Option Turn) → Placed (length b) (length l) s
    → Stepped b c l m s r
    → onward (length c) (length l) r
stepped_onward b c l m s r p t =
    let next = sought t.filled (moved t.window s) in
    follows-onward t.filled c l m r next (asked_ahead b t.filled s t.window p t.ready next refl) t.next
