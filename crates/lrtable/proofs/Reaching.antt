-- What a rule leads to, made once, and a rule taken with it: then each rule that it leads to is closed.
use Rattle.std.proofs.Common.{◌≡◌, ℕ, ◌+◌, ◌<◌, ◌≤◌, ◌⊎◌, inl, inr, ◌↔◌, Bool, true, false, List, [], ◌∷◌, ◌++◌, length, get_or, set, refl, sym, ap, ◌∙◌, subst, arith, length-set}
use Rattle.std.specs.Prelude.{map, take, IsTrue}
use Rattle.std.specs.List.{Contains}
use Rattle.std.proofs.lemmas.Bool.{cases_eq}
use Rattle.std.proofs.lemmas.List.{get_or_push, get_or_append_left}
use Rattle.std.proofs.lemmas.List.Elements.{Contains-append_left, Contains-push, Contains-push_cases}
use Rattle.table_theory.proofs.CellLists.{contains_nil, contains_head, contains_tail, contains_cases}
use Rattle.vob.specs.Sets.{is_set, is_set_in}
use Rattle.vob.proofs.Bits.{put_in}
use Rattle.lrtable.specs.Opening.{Front, RuleSets, IsTidy, IsOpen, HasRuleLook, HasFront, Brings, Opened, OpenedLook, AreOpened, room, Comes, FrontComes, FrontStep, NamedIn, BroughtBy, GainsOwn, IsClosedAt, Underway}
use Rattle.lrtable.specs.Reaching.{LeadsTo, PassesTo, BringsTo, IsReachedBy, MayBeReachedBy, IsAlone, AreListed}
use Rattle.lrtable.proofs.Clearing.{set_below}
use Rattle.lrtable.proofs.OpenLaws.{no_change, sizes_on, grows_on, fronts_none, map_next}

never : false ≡ true → ⊥
never e = cc

-- ---- the relations

pub brings_led : (fronts : List (List Front)) (A B t : ℕ) → BringsTo fronts A B t → LeadsTo fronts A B
brings_led fronts A B t (BringsTo.first e h m q x) = LeadsTo.next e h m q
brings_led fronts A B t (BringsTo.passed {B = C} e l m q n) = LeadsTo.next e (brings_led fronts A C t l) m q

pub passes_led : (fronts : List (List Front)) (A B : ℕ) → PassesTo fronts A B → LeadsTo fronts A B
passes_led fronts A _ PassesTo.here = LeadsTo.here
passes_led fronts A B (PassesTo.next {B = C} e l m q n) = LeadsTo.next e (passes_led fronts A C l) m q

-- behind a rule that is opened
module _ (fronts : List (List Front)) (from : RuleSets) (A : ℕ) (here : Opened fronts from A) where
  pub led_on : (B : ℕ) → LeadsTo fronts A B → Opened fronts from B
  led_on _ LeadsTo.here = here
  led_on B (LeadsTo.next {B = C} e h m q) = Opened.opened e (led_on C h) m q

  pub brought_on : (B t : ℕ) → BringsTo fronts A B t → OpenedLook fronts from B t
  brought_on B t (BringsTo.first {B = C} e h m q x) = OpenedLook.first e (led_on C h) m q x
  brought_on B t (BringsTo.passed {B = C} e l m q n) = OpenedLook.passed e (led_on C (brings_led fronts A C t l)) (brought_on C t l) m q n

  pub passed_on : (B t : ℕ) → OpenedLook fronts from A t → PassesTo fronts A B → OpenedLook fronts from B t
  passed_on _ t look PassesTo.here = look
  passed_on B t look (PassesTo.next {B = C} e l m q n) = OpenedLook.passed e (led_on C (passes_led fronts A C l)) (passed_on C t look l) m q n

-- ---- a list is made of the sets that a rule alone opens

module _ (fronts : List (List Front)) (A : ℕ) (from s : RuleSets) (alone : IsAlone A from) (o : AreOpened fronts from s) where
  begins : Opened fronts from A
  begins = Opened.given ((alone.open_is A).1 refl)

  is_led : (B : ℕ) → Opened fronts from B → LeadsTo fronts A B
  is_led B (Opened.given i) = subst (λ C. LeadsTo fronts A C) ((alone.open_is B).0 i) LeadsTo.here
  is_led B (Opened.opened {A = C} e h m q) = LeadsTo.next e (is_led C h) m q

  is_brought : (B t : ℕ) → OpenedLook fronts from B t → BringsTo fronts A B t
  is_brought B t (OpenedLook.given i) = absurd (alone.none B t i)
  is_brought B t (OpenedLook.first {A = C} e h m q x) = BringsTo.first e (is_led C h) m q x
  is_brought B t (OpenedLook.passed {A = C} e h l m q n) = BringsTo.passed e (is_brought C t l) m q n

  pub reached_listed : (flags : List Bool) (es : List Front) → length s.opened ≡ length fronts → ((B : ℕ) → IsTrue (is_set flags B) ↔ PassesTo fronts A B) → AreListed s flags es → IsReachedBy fronts s.tokens A es
  reached_listed flags es count passes l = record {
    fit = λ e m. record { rule = subst (λ n. e.rule < n) count (set_below s.opened e.rule (l.are_open e m)); first = l.width e m };
    leads = λ e m. is_led e.rule ((o.rules e.rule).0 (l.are_open e m));
    brings = λ e t m x. is_brought e.rule t ((o.looks e.rule t).0 (subst (λ r. IsTrue (is_set r t)) (l.first e m) x));
    passes = λ e m n. (passes e.rule).0 (sym (l.nullable e m) ∙ n);
    all_led = λ B h. open_at B h;
    all_brought = λ B t h.
        let n = open_at B (brings_led fronts A B t h) in
        let look = subst (λ C. HasRuleLook s C t) (sym n.2) ((o.looks B t).1 (brought_on fronts from A begins B t h)) in
        (n.0, n.1, n.2, subst (λ r. IsTrue (is_set r t)) (sym (l.first n.0 n.1)) look);
    all_passed = λ B h.
        let n = open_at B (passes_led fronts A B h) in
        (n.0, n.1, n.2, l.nullable n.0 n.1 ∙ subst (λ C. IsTrue (is_set flags C)) (sym n.2) ((passes B).1 h));
  }
    where
      open_at : (B : ℕ) → LeadsTo fronts A B → NamedIn es B
      open_at B h = l.all_open B ((o.rules B).1 (led_on fronts from A begins B h))

-- a list names a rule or not
named_or_not : (es : List Front) (B : ℕ) → NamedIn es B ⊎ (NamedIn es B → ⊥)
named_or_not [] B = inr (λ h. contains_nil h.0 h.1)
named_or_not (e ∷ es) B = elim (cases_eq e.rule B) [
  | inl q ↦ inl (e, contains_head e es, q)
  | inr ne ↦ elim (named_or_not es B) [
    | inl h ↦ inl (h.0, contains_tail e h.0 es h.1, h.2)
    | inr no_one ↦ inr (λ h. elim (contains_cases e h.0 es h.1) [ inl q ↦ absurd (ne (ap (λ (f : Front). f.rule) q ∙ h.2)) | inr m ↦ absurd (no_one (h.0, m, h.2)) ])
  ]
]

-- ---- the last of those that wait was taken, and what it leads to has what comes from there

module _ (fronts : List (List Front)) (from old new : RuleSets) (A tokens : ℕ) (es : List Front) (looks : List Bool) (waiting : List ℕ) (h : Underway fronts from old (waiting ++ A ∷ [])) (tidy : IsTidy old) (r : IsReachedBy fronts tokens A es)
    (row : (t : ℕ) → IsTrue (is_set looks t) ↔ HasRuleLook old A t) (c : Comes (NamedIn es) (BroughtBy looks es) old new) where
  here : Opened fronts from A
  here = h.sound_rules A (h.are_open A (Contains-push waiting A))

  sound : (B t : ℕ) → BroughtBy looks es B t → OpenedLook fronts from B t
  sound B t (e, m, q, inl f) = subst (λ C. OpenedLook fronts from C t) q (brought_on fronts from A here e.rule t (r.brings e t m f))
  sound B t (e, m, q, inr n) = subst (λ C. OpenedLook fronts from C t) q (passed_on fronts from A here e.rule t (h.sound_looks A t ((row t).0 n.1)) (r.passes e m n.0))

  -- where a rule is named, what stood at it need only have been passed on
  closed_named : (B : ℕ) → NamedIn es B → ((f : Front) (t : ℕ) → HasFront fronts B f → IsTrue f.nullable → HasRuleLook old B t → HasRuleLook new f.rule t) → IsClosedAt fronts new B
  closed_named B named before = record {
    opened = λ f m. c.rules f.rule (r.all_led f.rule (LeadsTo.next f led m refl));
    first = λ f t m x. let b = r.all_brought f.rule t (BringsTo.first f led m refl x) in c.looks f.rule t (b.0, b.1, b.2, inl b.3);
    passed = λ f t m n x. elim (c.only_looks B t x) [ inl y ↦ before f t m n y | inr y ↦ on f t m n y ];
  }
    where
      led : LeadsTo fronts A B
      led = subst (λ C. LeadsTo fronts A C) named.2 (r.leads named.0 named.1)

      on : (f : Front) (t : ℕ) → HasFront fronts B f → IsTrue f.nullable → BroughtBy looks es B t → HasRuleLook new f.rule t
      on f t m n (e, k, q, inl x) =
          let b = r.all_brought f.rule t (BringsTo.passed f (subst (λ C. BringsTo fronts A C t) q (r.brings e t k x)) m refl n) in
          c.looks f.rule t (b.0, b.1, b.2, inl b.3)
      on f t m n (e, k, q, inr x) =
          let b = r.all_passed f.rule (PassesTo.next f (subst (λ C. PassesTo fronts A C) q (r.passes e k x.0)) m refl n) in
          c.looks f.rule t (b.0, b.1, b.2, inr (b.3, x.1))

  closed_self : NamedIn es A → IsClosedAt fronts new A
  closed_self named = closed_named A named (λ f t m n x.
      let b = r.all_passed f.rule (PassesTo.next f PassesTo.here m refl n) in
      c.looks f.rule t (b.0, b.1, b.2, inr (b.3, (row t).1 x)))

  was_closed : (B : ℕ) → NamedIn es B → IsClosedAt fronts old B → IsClosedAt fronts new B
  was_closed B named k = closed_named B named (λ f t m n x. c.grows.looks f.rule t (k.passed f t m n x))

  was_shut : (B : ℕ) → NamedIn es B → (IsOpen old B → ⊥) → IsClosedAt fronts new B
  was_shut B named shut = closed_named B named (λ f t m n x. absurd (shut (tidy B t x)))

  other : (B : ℕ) → (NamedIn es B → ⊥) → IsClosedAt fronts old B → IsClosedAt fronts new B
  other B no_one k = record {
    opened = λ f m. c.grows.rules f.rule (k.opened f m);
    first = λ f t m x. c.grows.looks f.rule t (k.first f t m x);
    passed = λ f t m n x. c.grows.looks f.rule t (k.passed f t m n (elim (c.only_looks B t x) [ inl y ↦ y | inr y ↦ absurd (no_one (y.0, y.1, y.2)) ]));
  }

  self_named : NamedIn es A
  self_named = r.all_led A LeadsTo.here

  was_open : (B : ℕ) → IsOpen old B → Contains waiting B ⊎ IsClosedAt fronts new B
  was_open B x = elim (h.closed B x) [
    | inl m ↦ elim (Contains-push_cases waiting A B m) [ inl w ↦ inl w | inr q ↦ inr (subst (IsClosedAt fronts new) q (closed_self self_named)) ]
    | inr k ↦ inr (elim (named_or_not es B) [ inl n ↦ was_closed B n k | inr n ↦ other B n k ])
  ]

  now_closed : (b : Bool) (B : ℕ) → is_set old.opened B ≡ b → IsOpen new B → Contains waiting B ⊎ IsClosedAt fronts new B
  now_closed true B e x = was_open B e
  now_closed false B e x = elim (c.only_rules B x) [ inl y ↦ was_open B y | inr n ↦ inr (was_shut B n (λ y. never (sym e ∙ y))) ]

  pub reached_taken : Underway fronts from new waiting
  reached_taken = record {
    sizes = sizes_on from old new h.sizes c.sizes;
    grows = grows_on from old new h.grows c.grows;
    sound_rules = λ B x. elim (c.only_rules B x) [ inl y ↦ h.sound_rules B y | inr n ↦ subst (λ C. Opened fronts from C) n.2 (led_on fronts from A here n.0.rule (r.leads n.0 n.1)) ];
    sound_looks = λ B t x. elim (c.only_looks B t x) [ inl y ↦ h.sound_looks B t y | inr y ↦ sound B t y ];
    in_range = λ B x. let lt = h.in_range B (Contains-append_left waiting (A ∷ []) B x) in let n = c.sizes.opened in omega (arith, lt, n);
    are_open = λ B x. c.grows.rules B (h.are_open B (Contains-append_left waiting (A ∷ []) B x));
    closed = λ B x. now_closed (is_set old.opened B) B refl x;
  }

-- ---- rules without lookaheads that aren't open

pub comes_tidy : (N : ℕ → Type 0) (L : ℕ → ℕ → Type 0) (old new : RuleSets) → ((A t : ℕ) → L A t → N A) → IsTidy old → Comes N L old new → IsTidy new
comes_tidy N L old new named tidy c A t x = elim (c.only_looks A t x) [ inl y ↦ c.grows.rules A (tidy A t y) | inr y ↦ c.rules A (named A t y) ]

pub brought_named : (looks : List Bool) (es : List Front) (A t : ℕ) → BroughtBy looks es A t → NamedIn es A
brought_named looks es A t h = (h.0, h.1, h.2)

pub own_tidy : (es : List Front) (A : ℕ) (old new : RuleSets) → IsOpen old A → IsTidy old → GainsOwn es A old new → IsTidy new
own_tidy es A old new here tidy g B t x = subst (λ l. IsTrue (is_set l B)) (sym g.opened) (elim (g.only B t x) [ inl y ↦ tidy B t y | inr y ↦ subst (IsOpen old) y.0 here ])

-- ---- fronts one after another, where none is put with those that wait

pub step_room : (looks : List Bool) (e : Front) (old new : RuleSets) (changed : Bool) → FrontStep looks e old new changed → room new ≤ room old
step_room looks e old new true s = let q = s.fewer refl in omega (arith, q)
step_room looks e old new false s = let q = ap room (s.still refl) in omega (arith, q)

pub comes_none : (looks : List Bool) (s : RuleSets) → Comes (NamedIn []) (BroughtBy looks []) s s
comes_none looks s = (fronts_none looks s []).comes

comes_on : (N M : ℕ → Type 0) (L K : ℕ → ℕ → Type 0) (O : ℕ → Type 0) (P : ℕ → ℕ → Type 0) (a b c : RuleSets) → ((A : ℕ) → (N A ⊎ M A) ↔ O A) → ((A t : ℕ) → (L A t ⊎ K A t) ↔ P A t) → Comes N L a b → Comes M K b c → Comes O P a c
comes_on N M L K O P a b c n l h k = record {
  sizes = sizes_on a b c h.sizes k.sizes;
  grows = grows_on a b c h.grows k.grows;
  rules = λ A x. elim ((n A).1 x) [ inl y ↦ k.grows.rules A (h.rules A y) | inr y ↦ k.rules A y ];
  looks = λ A t x. elim ((l A t).1 x) [ inl y ↦ k.grows.looks A t (h.looks A t y) | inr y ↦ k.looks A t y ];
  only_rules = λ A x. elim (k.only_rules A x) [ inl y ↦ elim (h.only_rules A y) [ inl z ↦ inl z | inr z ↦ inr ((n A).0 (inl z)) ] | inr y ↦ inr ((n A).0 (inr y)) ];
  only_looks = λ A t x. elim (k.only_looks A t x) [ inl y ↦ elim (h.only_looks A t y) [ inl z ↦ inl z | inr z ↦ inr ((l A t).0 (inl z)) ] | inr y ↦ inr ((l A t).0 (inr y)) ];
}

pub comes_more : {X : Type 0} (f : X → Front) (xs : List X) (i : ℕ) (x : X) (looks : List Bool) (a b c : RuleSets) → i < length xs → x ≡ get_or xs i x → Comes (NamedIn (map f (take i xs))) (BroughtBy looks (map f (take i xs))) a b → FrontComes looks (f x) b c →
    Comes (NamedIn (map f (take (i + 1) xs))) (BroughtBy looks (map f (take (i + 1) xs))) a c
comes_more f xs i x looks a b c lt is h k = subst (λ l. Comes (NamedIn l) (BroughtBy looks l) a c) (sym (map_next f xs i x lt is))
    (comes_on (NamedIn es) (λ A. e.rule ≡ A) (BroughtBy looks es) (λ A t. (e.rule ≡ A) × Brings looks e t) (NamedIn (es ++ e ∷ [])) (BroughtBy looks (es ++ e ∷ [])) a b c named brought h k)
  where
    es : List Front
    es = map f (take i xs)

    e : Front
    e = f x

    named : (A : ℕ) → (NamedIn es A ⊎ (e.rule ≡ A)) ↔ NamedIn (es ++ e ∷ []) A
    named A = (
      λ y. elim y [ inl z ↦ (z.0, Contains-append_left es (e ∷ []) z.0 z.1, z.2) | inr q ↦ (e, Contains-push es e, q) ],
      λ y. elim (Contains-push_cases es e y.0 y.1) [ inl m ↦ inl (y.0, m, y.2) | inr q ↦ inr (ap (λ (g : Front). g.rule) q ∙ y.2) ],
    )

    brought : (A t : ℕ) → (BroughtBy looks es A t ⊎ ((e.rule ≡ A) × Brings looks e t)) ↔ BroughtBy looks (es ++ e ∷ []) A t
    brought A t = (
      λ y. elim y [ inl z ↦ (z.0, Contains-append_left es (e ∷ []) z.0 z.1, z.2, z.3) | inr q ↦ (e, Contains-push es e, q.0, q.1) ],
      λ y. elim (Contains-push_cases es e y.0 y.1) [ inl m ↦ inl (y.0, m, y.2, y.3) | inr q ↦ inr (ap (λ (g : Front). g.rule) q ∙ y.2, subst (λ g. Brings looks g t) (sym q) y.3) ],
    )

-- ---- one rule is opened where none was

module _ (A : ℕ) (empty from : RuleSets) (lt : A < length empty.opened) (none_open : (B : ℕ) → IsOpen empty B → ⊥) (no_look : (B t : ℕ) → HasRuleLook empty B t → ⊥) (rows : from.rows ≡ empty.rows) (opened : from.opened ≡ set empty.opened A true) where
  open_at : (B : ℕ) → IsOpen from B ↔ (A ≡ B)
  open_at B =
      let p = put_in empty.opened A B lt in (
        λ x. elim (p.0 (subst (λ l. IsTrue (is_set l B)) opened x)) [ inl y ↦ absurd (none_open B y) | inr q ↦ q ],
        λ q. subst (λ l. IsTrue (is_set l B)) (sym opened) (p.1 (inr q)),
      )

  pub is_alone : IsAlone A from
  is_alone = record { open_is = open_at; none = λ B t x. no_look B t (subst (λ l. IsTrue (is_set_in l B t)) rows x) }

  pub alone_tidy : IsTidy from
  alone_tidy B t x = absurd (is_alone.none B t x)

  pub alone_waits : (fronts : List (List Front)) → Underway fronts from from (A ∷ [])
  alone_waits fronts = record {
    sizes = no_change from;
    grows = record { rules = λ B x. x; looks = λ B t x. x };
    sound_rules = λ B x. Opened.given x;
    sound_looks = λ B t x. OpenedLook.given x;
    in_range = λ B x. let n = ap length opened ∙ length-set empty.opened A true in elim (contains_cases A B [] x) [ inl q ↦ subst (λ C. C < length from.opened) q (omega (arith, lt, n)) | inr y ↦ absurd (contains_nil B y) ];
    are_open = λ B x. elim (contains_cases A B [] x) [ inl q ↦ (open_at B).1 q | inr y ↦ absurd (contains_nil B y) ];
    closed = λ B x. inl (subst (λ C. Contains (A ∷ []) C) ((open_at B).0 x) (contains_head A []));
  }

-- ---- the walk over the open rules

-- so far the open rules that aren't left have a front in the list
pub record ListsSoFar (s : RuleSets) (flags : List Bool) (left : List ℕ) (es : List Front) : Type 0 where
  pub are_open : (e : Front) → Contains es e → IsOpen s e.rule
  pub first : (e : Front) → Contains es e → e.first ≡ get_or s.rows e.rule []
  pub width : (e : Front) → Contains es e → length e.first ≡ s.tokens
  pub nullable : (e : Front) → Contains es e → e.nullable ≡ is_set flags e.rule
  pub listed : (A : ℕ) → IsOpen s A → NamedIn es A ⊎ Contains left A
  pub left_open : (A : ℕ) → Contains left A → IsOpen s A

pub lists_none : (s : RuleSets) (flags : List Bool) (left : List ℕ) → ((A : ℕ) → Contains left A ↔ IsOpen s A) → ListsSoFar s flags left []
lists_none s flags left walks = record {
  are_open = λ e m. absurd (contains_nil e m);
  first = λ e m. absurd (contains_nil e m);
  width = λ e m. absurd (contains_nil e m);
  nullable = λ e m. absurd (contains_nil e m);
  listed = λ A x. inr ((walks A).1 x);
  left_open = λ A. (walks A).0;
}

pub lists_at : (s : RuleSets) (flags : List Bool) (A : ℕ) (left rest : List ℕ) (es : List Front) → left ≡ A ∷ rest → ListsSoFar s flags left es → A < length s.opened
lists_at s flags A left rest es q h = set_below s.opened A (h.left_open A (subst (λ l. Contains l A) (sym q) (contains_head A rest)))

pub lists_next : (s : RuleSets) (flags : List Bool) (A : ℕ) (left rest : List ℕ) (es : List Front) (e : Front) → left ≡ A ∷ rest → e.rule ≡ A → e.first ≡ get_or s.rows A [] → length e.first ≡ s.tokens → e.nullable ≡ is_set flags A → ListsSoFar s flags left es → ListsSoFar s flags rest (es ++ e ∷ [])
lists_next s flags A left rest es e q rule bits width nullable h = record {
  are_open = λ f m. each (λ g. IsOpen s g.rule) h.are_open (subst (IsOpen s) (sym rule) here) f m;
  first = λ f m. each (λ g. g.first ≡ get_or s.rows g.rule []) h.first (bits ∙ ap (λ B. get_or s.rows B []) (sym rule)) f m;
  width = λ f m. each (λ g. length g.first ≡ s.tokens) h.width width f m;
  nullable = λ f m. each (λ g. g.nullable ≡ is_set flags g.rule) h.nullable (nullable ∙ ap (λ B. is_set flags B) (sym rule)) f m;
  listed = λ B x. elim (h.listed B x) [
    | inl n ↦ inl (n.0, Contains-append_left es (e ∷ []) n.0 n.1, n.2)
    | inr m ↦ elim (contains_cases A B rest (subst (λ l. Contains l B) q m)) [ inl z ↦ inl (e, Contains-push es e, rule ∙ z) | inr m ↦ inr m ]
  ];
  left_open = λ B m. h.left_open B (subst (λ l. Contains l B) (sym q) (contains_tail A B rest m));
}
  where
    here : IsOpen s A
    here = h.left_open A (subst (λ l. Contains l A) (sym q) (contains_head A rest))

    each : (P : Front → Type 0) → ((f : Front) → Contains es f → P f) → P e → (f : Front) → Contains (es ++ e ∷ []) f → P f
    each P all one f m = elim (Contains-push_cases es e f m) [ inl k ↦ all f k | inr z ↦ subst P z one ]

pub lists_all : (s : RuleSets) (flags : List Bool) (left : List ℕ) (es : List Front) → left ≡ [] → ListsSoFar s flags left es → AreListed s flags es
lists_all s flags left es q h = record {
  are_open = h.are_open;
  first = h.first;
  width = h.width;
  nullable = h.nullable;
  all_open = λ A x. elim (h.listed A x) [ inl n ↦ n | inr m ↦ absurd (contains_nil A (subst (λ l. Contains l A) q m)) ];
}

-- a list that isn't empty is one that was asked for
pub is_kept : (fronts : List (List Front)) (tokens A : ℕ) (es : List Front) → 0 < length es → MayBeReachedBy fronts tokens A es → IsReachedBy fronts tokens A es
is_kept fronts tokens A es some (inl e) = let n = ap length e in absurd (omega (arith, some, n))
is_kept fronts tokens A es some (inr r) = r

-- ---- one list more

pub lists_more : (fronts : List (List Front)) (tokens : ℕ) (lists new : List (List Front)) (n : ℕ) (es : List Front) → length lists ≡ n → new ≡ lists ++ es ∷ [] → ((A : ℕ) → A < n → MayBeReachedBy fronts tokens A (get_or lists A [])) → MayBeReachedBy fronts tokens n es → (A : ℕ) → A < n + 1 → MayBeReachedBy fronts tokens A (get_or new A [])
lists_more fronts tokens lists new n es count e all one A lt = elim (cases_eq A n) [
  | inl q ↦ subst (λ k. MayBeReachedBy fronts tokens k (get_or new k [])) (sym q) (subst (MayBeReachedBy fronts tokens n) (sym (ap (λ l. get_or l n []) e ∙ get_or_push lists es [] n count)) one)
  | inr ne ↦ (let low : A < n = omega (arith, lt, ne) in subst (MayBeReachedBy fronts tokens A) (sym (ap (λ l. get_or l A []) e ∙ get_or_append_left lists (es ∷ []) [] A (omega (arith, low, count)))) (all A low))
]
