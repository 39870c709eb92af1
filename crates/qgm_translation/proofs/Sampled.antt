-- The sample computes.
use Rattle.std.proofs.Common.{◌≡◌, ◌≤◌, ◌==◌, ◌∙◌, ℕ, Bool, true, false, List, codes, refl, ap, sym, arith, []}
use Rattle.std.proofs.lemmas.Bool.{eqb-true}
use Rattle.qgm_translation.specs.Samples.{Sampled, boxes, query, sources}
use Rattle.qgm_translation.specs.Shown.{Shows, of_query, uses}

shows : Shows sources boxes 1 (of_query query) []
shows = record {
  kind = refl;
  plain = record { distinctness = refl; role = refl; numbered = (refl, refl) };
  key = tt;
  columns = refl;
  upper = record {
    kind = refl;
    groups = record {
      kind = refl;
      plain = record { distinctness = refl; role = refl; numbered = (refl, refl) };
      conds = refl;
      quants = (
        refl,
        (
          record {
            arguments = (refl, tt);
            rows = record {
              kind = refl;
              plain = record { distinctness = refl; role = refl; numbered = (refl, refl) };
              froms = (
                (
                  refl,
                  record {
                    kind = refl;
                    plain = record { distinctness = refl; role = refl; numbered = (refl, refl) };
                    columns = refl;
                    quants = (
                      refl,
                      refl,
                      record {
                        left = (refl, record { kind = refl; named = refl; types = refl; plain = record { distinctness = refl; role = refl; numbered = (refl, refl) }; bare = (refl, refl); quants = refl });
                        right = (
                          refl,
                          record {
                            kind = refl;
                            plain = record { distinctness = refl; role = refl; numbered = (refl, refl) };
                            froms = ((refl, (refl, record { kind = refl; named = refl; types = refl; plain = record { distinctness = refl; role = refl; numbered = (refl, refl) }; bare = (refl, refl); quants = refl })), tt);
                            subs = refl;
                            conds = refl;
                            head = refl;
                          },
                        );
                        on = refl;
                        conds = refl;
                        head = refl;
                      },
                    );
                  },
                ),
                tt,
              );
              subs = (
                refl,
                refl,
                refl,
                record {
                  kind = refl;
                  plain = record { distinctness = refl; role = refl; numbered = (refl, refl) };
                  froms = ((refl, (refl, record { kind = refl; named = refl; types = refl; plain = record { distinctness = refl; role = refl; numbered = (refl, refl) }; bare = (refl, refl); quants = refl })), tt);
                  subs = refl;
                  conds = refl;
                  head = refl;
                },
                refl,
              );
              conds = refl;
              head = refl;
            };
          },
          refl,
        ),
      );
    };
    subs = refl;
    conds = refl;
    head = refl;
  };
}

-- each of these numbers is used once, and all else that is used is shared
alone : (b : ℕ) → ((name : List ℕ) → (sources.shared name == b) ≡ false) → uses b boxes ≤ 1
alone b h = one 2 b refl (λ i. one 3 b refl (λ j. one 4 b refl (λ k. one 5 b refl (λ l. rest b i j k l (h (codes "T")) (h (codes "U")) (h (codes "V"))))))
  where
    by_case : (a b : ℕ) → uses a boxes ≡ 1 → (c : Bool) → (a == b) ≡ c → ((a == b) ≡ false → uses b boxes ≤ 1) → uses b boxes ≤ 1
    by_case a b e true same f = let x : uses b boxes ≡ 1 = ap (λ z. uses z boxes) (sym (eqb-true a b same)) ∙ e in omega arith
    by_case a b e false other f = f other

    one : (a b : ℕ) → uses a boxes ≡ 1 → ((a == b) ≡ false → uses b boxes ≤ 1) → uses b boxes ≤ 1
    one a b e f = by_case a b e (a == b) refl f

    rest : (b : ℕ) → (2 == b) ≡ false → (3 == b) ≡ false → (4 == b) ≡ false → (5 == b) ≡ false → (6 == b) ≡ false → (7 == b) ≡ false → (8 == b) ≡ false → uses b boxes ≤ 1
    rest b i j k l t u v = rw (i, j, k, l, t, u, v) omega arith

pub sampled : Sampled
sampled = record { of_query = refl; of_graph = refl; built = record { shows = shows; named = refl; ordered = refl; used = refl; alone = alone } }
