-- Each option is in the list of all.
use Rattle.std.proofs.Common.{◌≡◌, ◌≢◌, ◌<◌, ◌+◌, ℕ, zero, suc, List, [], ◌∷◌, length, ◌⊎◌, inl, inr, arith, refl, lit<, sym, subst, ◌∙◌}
use Rattle.std.specs.Prelude.{slice_index_or}
use Rattle.std.proofs.Math.Nat.{eq-or-lt_of_le}
use Rattle.serve_options.specs.declared.row.Name.{Name}
use Rattle.serve_options.specs.declared.row.Name.TheVariants.{Config, CheckConfig, Leader, Servers, LeaderOnly, Client, Id, Dialect, Counter, SecretFile, SuperDigest, Workers, Batch, MaxClients, MaxPerAddress, MaxUnderWay, MaxWatches, Unconnected, Words, Tick, InitLimit, SyncLimit, MinSessionTimeout, MaxSessionTimeout, Checkpoint, GiveUp, Metrics, Record, Log, LogFormat, Help, Version}
use Rattle.serve_options.specs.declared.row.TheConstants.{NAMES}
use Rattle.serve_options.specs.Places.{name_place}
use Rattle.serve_options.specs.Rows.{option_word}

pub name_at : (name : Name) → slice_index_or NAMES (name_place name) name ≡ name
name_at Config = refl
name_at CheckConfig = refl
name_at Leader = refl
name_at Servers = refl
name_at LeaderOnly = refl
name_at Client = refl
name_at Id = refl
name_at Dialect = refl
name_at Counter = refl
name_at SecretFile = refl
name_at SuperDigest = refl
name_at Workers = refl
name_at Batch = refl
name_at MaxClients = refl
name_at MaxPerAddress = refl
name_at MaxUnderWay = refl
name_at MaxWatches = refl
name_at Unconnected = refl
name_at Words = refl
name_at Tick = refl
name_at InitLimit = refl
name_at SyncLimit = refl
name_at MinSessionTimeout = refl
name_at MaxSessionTimeout = refl
name_at Checkpoint = refl
name_at GiveUp = refl
name_at Metrics = refl
name_at Record = refl
name_at Log = refl
name_at LogFormat = refl
name_at Help = refl
name_at Version = refl

pub place_below : (name : Name) → name_place name < 32
place_below Config = lit< tt
place_below CheckConfig = lit< tt
place_below Leader = lit< tt
place_below Servers = lit< tt
place_below LeaderOnly = lit< tt
place_below Client = lit< tt
place_below Id = lit< tt
place_below Dialect = lit< tt
place_below Counter = lit< tt
place_below SecretFile = lit< tt
place_below SuperDigest = lit< tt
place_below Workers = lit< tt
place_below Batch = lit< tt
place_below MaxClients = lit< tt
place_below MaxPerAddress = lit< tt
place_below MaxUnderWay = lit< tt
place_below MaxWatches = lit< tt
place_below Unconnected = lit< tt
place_below Words = lit< tt
place_below Tick = lit< tt
place_below InitLimit = lit< tt
place_below SyncLimit = lit< tt
place_below MinSessionTimeout = lit< tt
place_below MaxSessionTimeout = lit< tt
place_below Checkpoint = lit< tt
place_below GiveUp = lit< tt
place_below Metrics = lit< tt
place_below Record = lit< tt
place_below Log = lit< tt
place_below LogFormat = lit< tt
place_below Help = lit< tt
place_below Version = lit< tt

-- Each name is at its place, counted from a first one.
abbrev ArePlaced : ℕ → List Name → Type 0
ArePlaced first [] = Unit {0}
ArePlaced first (name ∷ names) = (name_place name ≡ first) × ArePlaced (suc first) names

placed_at : (names : List Name) (first i : ℕ) (d : Name) → ArePlaced first names → i < length names
    → name_place (slice_index_or names i d) ≡ first + i
placed_at [] first i d are below = let none : i < 0 = below in omega arith
placed_at (name ∷ names) first zero d are below = are.0 ∙ omega arith
placed_at (name ∷ names) first (suc i) d are below =
    placed_at names (suc first) i d are.1 (omega arith) ∙ omega arith

pub place_at : (i : ℕ) (d : Name) → i < 32 → name_place (slice_index_or NAMES i d) ≡ i
place_at i d below = placed_at NAMES 0 i d all below ∙ omega arith
  where
    all : ArePlaced 0 NAMES
    all = (
      refl,
      (
        refl,
        (
          refl,
          (
            refl,
            (
              refl,
              (
                refl,
                (
                  refl,
                  (
                    refl,
                    (
                      refl,
                      (
                        refl,
                        (
                          refl,
                          (
                            refl,
                            (
                              refl,
                              (
                                refl,
                                (
                                  refl,
                                  (
                                    refl,
                                    (
                                      refl,
                                      (
                                        refl,
                                        (
                                          refl,
                                          (
                                            refl,
                                            (
                                              refl,
                                              (
                                                refl,
                                                (
                                                  refl,
                                                  (
                                                    refl,
                                                    (
                                                      refl,
                                                      (
                                                        refl,
                                                        (
                                                          refl,
                                                          (
                                                            refl,
                                                            (refl, (refl, (refl, (refl, tt)))),
                                                          ),
                                                        ),
                                                      ),
                                                    ),
                                                  ),
                                                ),
                                              ),
                                            ),
                                          ),
                                        ),
                                      ),
                                    ),
                                  ),
                                ),
                              ),
                            ),
                          ),
                        ),
                      ),
                    ),
                  ),
                ),
              ),
            ),
          ),
        ),
      ),
    )

-- A word that no name before has, and this one hasn't either.
pub one_more : (names : List Name) (word : List ℕ) (i : ℕ)
    → ((k : ℕ) (name : Name) → k < i → option_word (slice_index_or names k name) ≢ word)
    → ((name : Name) → option_word (slice_index_or names i name) ≢ word)
    → (k : ℕ) (name : Name) → k < i + 1 → option_word (slice_index_or names k name) ≢ word
one_more names word i before here k name below = by (eq-or-lt_of_le (omega arith))
  where
    by : (k ≡ i) ⊎ (k < i) → option_word (slice_index_or names k name) ≢ word
    by (inl same) = subst (λ (j : ℕ). option_word (slice_index_or names j name) ≢ word) (sym same) (here name)
    by (inr less) = before k name less
