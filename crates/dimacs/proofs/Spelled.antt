-- A text that spells a formula is read as that formula: the reader goes through the header, and word for word through the clauses.
use Rattle.std.proofs.Common.{◌≡◌, ℕ, ◌+◌, ◌-◌, ◌*◌, ◌<◌, ◌≤◌, min, Bool, true, false, ◌||◌, eqb, ltb, leb, List, [], ◌∷◌, ◌++◌, length, Ok, Err, sym, refl, ap, ◌∙◌, subst, append_assoc, append-nil, arith, length-append}
use Rattle.std.proofs.lemmas.Bool.{and_parts, cond-true, cond-false, leb-true, lt-ltb, le-ltb, lt-leb, eq-eqb, ne_eqb, or_from}
use Rattle.dimacs.specs.declared.fault.Kind.TheVariants.{OutOfRange, Garbage, TooManyClauses, TooManyEntries, TooManyVariables, TooFewClauses}
use Rattle.dimacs.specs.declared.step.Mode.{Mode}
use Rattle.dimacs.specs.declared.step.Mode.TheVariants.{Start, Comment, Ended, Gap, Sign, Digits}
use Rattle.dimacs.specs.declared.step.Stage.{Stage}
use Rattle.dimacs.specs.declared.step.Stage.TheVariants.{Variables, Clauses, Body}
use Rattle.dimacs.specs.declared.step.State.{State}
use Rattle.dimacs.specs.Step.{digit, blank, newline, literal, still, begun, begun_at, to_mode, to_number, mode_behind, longer}
use Rattle.dimacs.specs.Feed.{Reading, begin, fed, feeds, acted, onward, closing, after_all}
use Rattle.dimacs.specs.Spelled.{digits_only, value_on, Numeral, numeral_bytes, value, Proper, Word, word_bytes, clause_bytes, clauses_bytes, text_bytes, clause_of, row_of, AllNamed, EveryNamed, ReadAsSpelled}

-- the bytes lead from one reading to another, whatever comes behind them
abbrev Goes : Reading → List ℕ → Reading → Type 0
Goes r xs q = (ys : List ℕ) (i : ℕ) → (j : ℕ) × (feeds r (xs ++ ys) i ≡ feeds q ys j)

go_none : (r : Reading) → Goes r [] r
go_none r ys i = (i, refl)

go_on : (r q t : Reading) (xs ys : List ℕ) → Goes r xs q → Goes q ys t → Goes r (xs ++ ys) t
go_on r q t xs ys f g zs i =
    let a = f (ys ++ zs) i in
    let b = g zs a.0 in
    (b.0, ap (λ bs. feeds r bs i) (append_assoc xs ys zs) ∙ a.1 ∙ b.1)

go_byte : (r q t : Reading) (b : ℕ) (xs : List ℕ) → fed r b ≡ Ok q → Goes q xs t → Goes r (b ∷ xs) t
go_byte r q t b xs e g ys i =
    let a = g ys (i + 1) in
    (a.0, ap (λ x. onward x i (λ z. feeds z (xs ++ ys) (i + 1))) e ∙ a.1)

go_to : (r q t : Reading) (xs : List ℕ) → q ≡ t → Goes r xs q → Goes r xs t
go_to r q t xs e g = subst (λ z. Goes r xs z) e g

abbrev at : State → List ℕ → List ℕ → Reading
at s c w = record { state = s; clause = c; row = w }

-- a digit is no other byte that the reader looks for
module _ (d : ℕ) (h : digit d ≡ true) where
  low : 48 ≤ d
  low = leb-true 48 d (and_parts (leb 48 d) (leb d 57) h).0

  not_below : (k : ℕ) → k < 48 → eqb d k ≡ false
  not_below k lt = let l = low in ne_eqb d k (λ e. omega arith)

  high : d ≤ 57
  high = leb-true d 57 (and_parts (leb 48 d) (leb d 57) h).1

  not_above : (k : ℕ) → 57 < k → eqb d k ≡ false
  not_above k lt = let l = high in ne_eqb d k (λ e. omega arith)

  not_blank : blank d ≡ false
  not_blank = or_from (eqb d 32) (eqb d 9 || eqb d 13) (not_below 32 (omega arith)) (or_from (eqb d 9) (eqb d 13) (not_below 9 (omega arith)) (not_below 13 (omega arith)))

  pub begun_digit : (s : State) → begun s d ≡ still (to_number s false (d - 48))
  begun_digit s = cond-true (digit d) (still (to_number s false (d - 48))) (begun_at s.stage s d) h

value_grows : (ds : List ℕ) (n : ℕ) → n ≤ value_on n ds
value_grows [] n = omega arith
value_grows (d ∷ ds) n = let h = value_grows ds (n * 10 + (d - 48)) in omega arith

-- the digits of a number
go_digits : (s : State) (negative : Bool) (c w ds : List ℕ) (n : ℕ) → digits_only ds ≡ true → value_on n ds ≤ 100000
    → Goes (at (to_number s negative n) c w) ds (at (to_number s negative (value_on n ds)) c w)
go_digits s negative c w [] n all small = go_none (at (to_number s negative n) c w)
go_digits s negative c w (d ∷ ds) n all small =
    let parts = and_parts (digit d) (digits_only ds) all in
    let grows = value_grows ds (n * 10 + (d - 48)) in
    let same : min n 100000 * 10 + (d - 48) ≡ n * 10 + (d - 48) = omega arith in
    let r = at (to_number s negative n) c w in
    let q = at (to_number s negative (n * 10 + (d - 48))) c w in
    let e : fed r d ≡ Ok q =
    ap (acted r) (cond-true (digit d) (still (longer (to_number s negative n) (record { negative = negative; value = n }) d)) _ parts.0)
    ∙ ap (λ k. Ok (at (to_number s negative k) c w)) same in
    go_byte r q (at (to_number s negative (value_on (n * 10 + (d - 48)) ds)) c w) d ds e (go_digits s negative c w ds (n * 10 + (d - 48)) parts.1 small)

-- behind the header: at a line's start or between numbers
abbrev body : Bool → ℕ → ℕ → ℕ → State
body line v total k = record { mode = mode_behind line; stage = Body (record { variables = v; clauses = total }) k }

module _ (v total k : ℕ) (c w : List ℕ) where
  begin_digit : (line : Bool) (d : ℕ) → digit d ≡ true → fed (at (body line v total k) c w) d ≡ Ok (at (to_number (body line v total k) false (d - 48)) c w)
  begin_digit true d h =
      let s = body true v total k in
      let r = at s c w in
      ap (acted r)
      (cond-false (blank d || newline d) (still s) _ (or_from (blank d) (newline d) (not_blank d h) (not_below d h 10 (omega arith)))
      ∙ cond-false (eqb d 99) (still (to_mode s Comment)) _ (not_above d h 99 (omega arith))
      ∙ cond-false (eqb d 37) (still (to_mode s Ended)) (begun s d) (not_below d h 37 (omega arith))
      ∙ begun_digit d h s)
  begin_digit false d h =
      let s = body false v total k in
      let r = at s c w in
      ap (acted r)
      (cond-false (blank d) (still s) _ (not_blank d h)
      ∙ cond-false (newline d) (still (to_mode s Start)) (begun s d) (not_below d h 10 (omega arith))
      ∙ begun_digit d h s)

  begin_minus : (line : Bool) → fed (at (body line v total k) c w) 45 ≡ Ok (at (to_mode (body line v total k) Sign) c w)
  begin_minus true = refl
  begin_minus false = refl

  -- a number behind its sign
  go_numeral : (line : Bool) (m : Numeral) (sign : Bool) → Proper m
      → Goes (at (body line v total k) c w) (word_bytes (record { negative = sign; numeral = m })) (at (to_number (body line v total k) sign (value m)) c w)
  go_numeral line m false p =
      let s = body line v total k in
      let parts = and_parts (digit m.first) (digits_only m.others) p.digits in
      go_byte (at s c w) (at (to_number s false (m.first - 48)) c w) (at (to_number s false (value m)) c w) m.first m.others
      (begin_digit line m.first parts.0) (go_digits s false c w m.others (m.first - 48) parts.1 p.small)
  go_numeral line m true p =
      let s = body line v total k in
      let parts = and_parts (digit m.first) (digits_only m.others) p.digits in
      let r = at (to_mode s Sign) c w in
      let e : fed r m.first ≡ Ok (at (to_number s true (m.first - 48)) c w) =
      ap (acted r) (cond-true (digit m.first) (still (to_number s true (m.first - 48))) (Err Garbage) parts.0) in
      go_byte (at s c w) r (at (to_number s true (value m)) c w) 45 (numeral_bytes m) (begin_minus line)
      (go_byte r (at (to_number s true (m.first - 48)) c w) (at (to_number s true (value m)) c w) m.first m.others e
      (go_digits s true c w m.others (m.first - 48) parts.1 p.small))

  -- the blank behind a literal
  end_literal : (line sign : Bool) (m : ℕ) → v ≤ 32768 → 1 ≤ m → m ≤ v → length c < 65535
      → fed (at (to_number (body line v total k) sign m) c w) 32 ≡ Ok (at (body false v total k) (c ++ (literal m sign ∷ [])) w)
  end_literal line sign m few one le room =
      let r = at (to_number (body line v total k) sign m) c w in
      let s = to_number (body line v total k) sign m in
      ap (acted r)
      (cond-false (ltb (min v 32768) m) (Err OutOfRange) _ (le-ltb (min v 32768) m (omega arith))
      ∙ cond-true (ltb 0 m) _ _ (lt-ltb 0 m (omega arith)))
      ∙ cond-true (ltb (length c) 65535) _ (Err TooManyEntries) (lt-ltb (length c) 65535 room)

  -- the 0 and the newline behind the last literal
  end_clause : (line : Bool) → k < total → length w + length c < 65535
      → Goes (at (body line v total k) c w) (48 ∷ 10 ∷ []) (at (body true v total (k + 1)) [] (w ++ (length c ∷ c)))
  end_clause line more room =
      let s = to_number (body line v total k) false 0 in
      let r = at s c w in
      let q = at (body true v total (k + 1)) [] (w ++ (length c ∷ c)) in
      let e : fed r 10 ≡ Ok q =
      ap (acted r)
      (cond-false (ltb (min v 32768) 0) (Err OutOfRange) _ (le-ltb (min v 32768) 0 (omega arith))
      ∙ cond-false (leb total k) (Err TooManyClauses) _ (lt-leb total k more))
      ∙ cond-true (ltb (length w + length c) 65535) _ (Err TooManyEntries) (lt-ltb (length w + length c) 65535 room) in
      go_byte (at (body line v total k) c w) r q 48 (10 ∷ []) (begin_digit line 48 refl) (go_byte r q q 10 [] e (go_none q))

-- the words of a clause behind the literals c, and its end
go_clause : (v total k : ℕ) (w : List ℕ) (ws : List Word) (c : List ℕ) (line : Bool) → v ≤ 32768 → AllNamed v ws → k < total → length w + length (c ++ clause_of ws) < 65535
    → Goes (at (body line v total k) c w) (clause_bytes ws) (at (body true v total (k + 1)) [] (w ++ (length (c ++ clause_of ws) ∷ (c ++ clause_of ws))))
go_clause v total k w [] c line few named more room =
    let e = append-nil c in
    go_to (at (body line v total k) c w) _ _ (48 ∷ 10 ∷ [])
    (ap (λ xs. at (body true v total (k + 1)) [] (w ++ (length xs ∷ xs))) (sym e))
    (end_clause v total k c w line more (subst (λ xs. length w + length xs < 65535) e room))
go_clause v total k w (x ∷ ws) c line few named more room =
    let m = x.numeral in
    let l = literal (value m) x.negative in
    let word = named.0 in
    let r = at (body line v total k) c w in
    let mid = at (to_number (body line v total k) x.negative (value m)) c w in
    let next = at (body false v total k) (c ++ (l ∷ [])) w in
    let joined : (c ++ (l ∷ [])) ++ clause_of ws ≡ c ++ (l ∷ clause_of ws) = append_assoc c (l ∷ []) (clause_of ws) in
    let long = length-append c (l ∷ clause_of ws) in
    let end = at (body true v total (k + 1)) [] (w ++ (length (c ++ (l ∷ clause_of ws)) ∷ (c ++ (l ∷ clause_of ws)))) in
    let later : Goes next (clause_bytes ws) end =
    go_to next _ end (clause_bytes ws)
    (ap (λ xs. at (body true v total (k + 1)) [] (w ++ (length xs ∷ xs))) joined)
    (go_clause v total k w ws (c ++ (l ∷ [])) false few named.1 more (subst (λ xs. length w + length xs < 65535) (sym joined) room)) in
    go_on r mid end (word_bytes x) (32 ∷ clause_bytes ws)
    (go_numeral v total k c w line m x.negative word.proper)
    (go_byte mid next end 32 (clause_bytes ws) (end_literal v total k c w line x.negative (value m) few word.from_one word.to_last (omega arith)) later)

go_clauses : (v total : ℕ) (cs : List (List Word)) (k : ℕ) (w : List ℕ) → v ≤ 32768 → EveryNamed v cs → k + length cs ≡ total → length (w ++ row_of cs) ≤ 65535
    → Goes (at (body true v total k) [] w) (clauses_bytes cs) (at (body true v total total) [] (w ++ row_of cs))
go_clauses v total [] k w few named count room =
    let same : k ≡ total = omega arith in
    go_to (at (body true v total k) [] w) _ _ []
    (ap (λ i. at (body true v total i) [] w) same ∙ ap (λ xs. at (body true v total total) [] xs) (sym (append-nil w)))
    (go_none (at (body true v total k) [] w))
go_clauses v total (c ∷ cs) k w few named count room =
    let x = clause_of c in
    let joined : (w ++ (length x ∷ x)) ++ row_of cs ≡ w ++ (length x ∷ (x ++ row_of cs)) = append_assoc w (length x ∷ x) (row_of cs) in
    let a = length-append w (length x ∷ (x ++ row_of cs)) in
    let b = length-append x (row_of cs) in
    let rest = go_clauses v total cs (k + 1) (w ++ (length x ∷ x)) few named.1 (omega arith) (subst (λ xs. length xs ≤ 65535) (sym joined) room) in
    let end = at (body true v total total) [] (w ++ (length x ∷ (x ++ row_of cs))) in
    go_on (at (body true v total k) [] w) (at (body true v total (k + 1)) [] (w ++ (length x ∷ x))) end (clause_bytes c) (clauses_bytes cs)
    (go_clause v total k w c [] true few named.0 (omega arith) (omega arith))
    (go_to (at (body true v total (k + 1)) [] (w ++ (length x ∷ x))) _ end (clauses_bytes cs) (ap (λ xs. at (body true v total total) [] xs) joined) rest)

-- the header's numbers

abbrev heading : Mode → Stage → State
heading m g = record { mode = m; stage = g }

abbrev digits : ℕ → Mode
digits n = Digits (record { negative = false; value = n })

begin_variables : (d : ℕ) → digit d ≡ true → fed (at (heading Gap Variables) [] []) d ≡ Ok (at (heading (digits (d - 48)) Variables) [] [])
begin_variables d h =
    let s = heading Gap Variables in
    ap (acted (at s [] [])) (cond-false (blank d) (still s) (begun s d) (not_blank d h) ∙ begun_digit d h s)

begin_clauses : (v d : ℕ) → digit d ≡ true → fed (at (heading Gap (Clauses v)) [] []) d ≡ Ok (at (heading (digits (d - 48)) (Clauses v)) [] [])
begin_clauses v d h =
    let s = heading Gap (Clauses v) in
    ap (acted (at s [] [])) (cond-false (blank d) (still s) (begun s d) (not_blank d h) ∙ begun_digit d h s)

end_variables : (v : ℕ) → v ≤ 32768 → fed (at (heading (digits v) Variables) [] []) 32 ≡ Ok (at (heading Gap (Clauses v)) [] [])
end_variables v few = ap (acted (at (heading (digits v) Variables) [] [])) (cond-false (ltb 32768 v) (Err TooManyVariables) _ (le-ltb 32768 v few))

module _ (vs ts : Numeral) (p : Proper vs) (q : Proper ts) (few : value vs ≤ 32768) (cs : List (List Word)) (t : Reading) where
  abbrev v : ℕ
  v = value vs

  from_clauses : Goes (at (body true v (value ts) 0) [] []) (clauses_bytes cs) t → Goes (at (heading Gap (Clauses v)) [] []) (numeral_bytes ts ++ (10 ∷ clauses_bytes cs)) t
  from_clauses g =
      let parts = and_parts (digit ts.first) (digits_only ts.others) q.digits in
      let s = heading Gap (Clauses v) in
      let mid = at (heading (digits (value ts)) (Clauses v)) [] [] in
      go_byte (at s [] []) (at (heading (digits (ts.first - 48)) (Clauses v)) [] []) t ts.first (ts.others ++ (10 ∷ clauses_bytes cs)) (begin_clauses v ts.first parts.0)
      (go_on (at (heading (digits (ts.first - 48)) (Clauses v)) [] []) mid t ts.others (10 ∷ clauses_bytes cs)
      (go_digits s false [] [] ts.others (ts.first - 48) parts.1 q.small)
      (go_byte mid (at (body true v (value ts) 0) [] []) t 10 (clauses_bytes cs) refl g))

  from_variables : Goes (at (body true v (value ts) 0) [] []) (clauses_bytes cs) t
      → Goes (at (heading Gap Variables) [] []) (numeral_bytes vs ++ (32 ∷ (numeral_bytes ts ++ (10 ∷ clauses_bytes cs)))) t
  from_variables g =
      let parts = and_parts (digit vs.first) (digits_only vs.others) p.digits in
      let s = heading Gap Variables in
      let mid = at (heading (digits v) Variables) [] [] in
      let rest = 32 ∷ (numeral_bytes ts ++ (10 ∷ clauses_bytes cs)) in
      go_byte (at s [] []) (at (heading (digits (vs.first - 48)) Variables) [] []) t vs.first (vs.others ++ rest) (begin_variables vs.first parts.0)
      (go_on (at (heading (digits (vs.first - 48)) Variables) [] []) mid t vs.others rest
      (go_digits s false [] [] vs.others (vs.first - 48) parts.1 p.small)
      (go_byte mid (at (heading Gap (Clauses v)) [] []) t 32 (numeral_bytes ts ++ (10 ∷ clauses_bytes cs)) (end_variables v few) (from_clauses g)))

  from_begin : Goes (at (heading Gap Variables) [] []) (numeral_bytes vs ++ (32 ∷ (numeral_bytes ts ++ (10 ∷ clauses_bytes cs)))) t → Goes begin (text_bytes vs ts cs) t
  from_begin g ys i = g ys (i + 1 + 1 + 1 + 1 + 1 + 1)

pub read_as_spelled : ReadAsSpelled
read_as_spelled vs ts cs p q few count named room =
    let v = value vs in
    let total = value ts in
    let body-goes = go_clauses v total cs 0 [] few named (let e : 0 + length cs ≡ total = omega arith in e) room in
    let t = at (body true v total total) [] (row_of cs) in
    let whole = from_begin vs ts p q few cs t (from_variables vs ts p q few cs t body-goes) [] 0 in
    let text = text_bytes vs ts cs in
    ap (after_all text) (ap (λ bs. feeds begin bs 0) (sym (append-nil text)) ∙ whole.1)
    ∙ ap (closing text) (cond-true (eqb total total) (Ok (record { variables = min v 32768; row = row_of cs })) (Err TooFewClauses) (eq-eqb total total refl))
    ∙ ap (λ k. Ok (record { variables = k; row = row_of cs })) (let e : min v 32768 ≡ v = omega arith in e)
