use Rattle.std.proofs.Common.{ℕ, pos, List, [], ◌∷◌, Option, false, inl, inr, refl, ap, arith}
use lib.Dec.{lit<}
use Rattle.std.specs.Prelude.{codes, slice_index, unwrap_or}
use Rattle.binlog_documents.specs.Document.{integer, text, array, object, no_elements, element, no_members, member}
use Rattle.binlog_documents.proofs.DecimalDigits.{decimals_are_shown}
use Rattle.document_samples.specs.Spelling.{one_and_x, a_is_70000, a_is_true}
use Rattle.document_samples.specs.Bytes.{hex}
use Rattle.document_samples.proofs.OnDocuments.{on_documents}
use Rattle.document_samples.proofs.Unspelled.{unread, other}
use Rattle.document_samples.proofs.sample_spelling.Goals as goal

pub returns-clause-small_array : goal.returns-clause-small_array
unfolding on_documents
returns-clause-small_array c = (
  2 ∷ 0 ∷ 12 ∷ 0 ∷ 5 ∷ 1 ∷ 0 ∷ 12 ∷ 10 ∷ 0 ∷ 1 ∷ 120 ∷ [],
  [],
  refl,
  omega arith,
  (
    2,
    inl (refl, refl),
    record {
      count = 2 ∷ 0 ∷ [];
      size = 12 ∷ 0 ∷ [];
      entries = 5 ∷ 1 ∷ 0 ∷ 12 ∷ 10 ∷ 0 ∷ [];
      values = 1 ∷ 120 ∷ [];
      whole = refl;
      counts = (refl, refl);
      sizes = (refl, refl);
      spelled = (
        5 ∷ 1 ∷ 0 ∷ [],
        12 ∷ 10 ∷ 0 ∷ [],
        10,
        1 ∷ 120 ∷ [],
        refl,
        inl (record {
          kind = 5;
          value = 1 ∷ 0 ∷ [];
          unused = [];
          whole = refl;
          fills = refl;
          small = refl;
          spelled = inl (refl, (refl, refl));
          stays = refl;
          leaves = refl;
        }),
        (
          12 ∷ 10 ∷ 0 ∷ [],
          [],
          12,
          [],
          refl,
          inr (record {
            kind = 12;
            offset = 10 ∷ 0 ∷ [];
            gap = [];
            value = 1 ∷ 120 ∷ [];
            whole = refl;
            large = refl;
            apart = refl;
            points = (refl, refl);
            spelled = (refl, refl, (1 ∷ [], refl, omega arith, inl (omega arith, refl, refl)));
            ends = refl;
          }),
          refl,
        ),
      );
    },
  ),
)

pub returns-clause-large_object : goal.returns-clause-large_object
unfolding on_documents
returns-clause-large_object c = (
  1 ∷ 0 ∷ 0 ∷ 0 ∷ 20 ∷ 0 ∷ 0 ∷ 0 ∷ 19 ∷ 0 ∷ 0 ∷ 0 ∷ 1 ∷ 0 ∷ 7 ∷ 112 ∷ 17 ∷ 1 ∷ 0 ∷ 97 ∷ [],
  [],
  refl,
  omega arith,
  (
    4,
    inr (refl, refl),
    record {
      count = 1 ∷ 0 ∷ 0 ∷ 0 ∷ [];
      size = 20 ∷ 0 ∷ 0 ∷ 0 ∷ [];
      key_entries = 19 ∷ 0 ∷ 0 ∷ 0 ∷ 1 ∷ 0 ∷ [];
      entries = 7 ∷ 112 ∷ 17 ∷ 1 ∷ 0 ∷ [];
      keys = 97 ∷ [];
      values = [];
      whole = refl;
      counts = (refl, refl);
      sizes = (refl, refl);
      named = (19 ∷ 0 ∷ 0 ∷ 0 ∷ [], 1 ∷ 0 ∷ [], [], [], [], refl, refl, (refl, refl), (refl, refl), refl, (refl, refl));
      spelled = (
        7 ∷ 112 ∷ 17 ∷ 1 ∷ 0 ∷ [],
        [],
        20,
        [],
        refl,
        inl (record {
          kind = 7;
          value = 112 ∷ 17 ∷ 1 ∷ 0 ∷ [];
          unused = [];
          whole = refl;
          fills = refl;
          small = refl;
          spelled = inr (inr (inl (refl, (refl, refl))));
          stays = refl;
          leaves = refl;
        }),
        refl,
      );
    },
  ),
)

pub returns-clause-object_with_gap : goal.returns-clause-object_with_gap
unfolding on_documents
returns-clause-object_with_gap c = (
  1 ∷ 0 ∷ 20 ∷ 0 ∷ 11 ∷ 0 ∷ 1 ∷ 0 ∷ 2 ∷ 13 ∷ 0 ∷ 97 ∷ 255 ∷ 1 ∷ 0 ∷ 7 ∷ 0 ∷ 4 ∷ 1 ∷ 0 ∷ [],
  255 ∷ [],
  refl,
  omega arith,
  (
    2,
    inl (refl, refl),
    record {
      count = 1 ∷ 0 ∷ [];
      size = 20 ∷ 0 ∷ [];
      key_entries = 11 ∷ 0 ∷ 1 ∷ 0 ∷ [];
      entries = 2 ∷ 13 ∷ 0 ∷ [];
      keys = 97 ∷ [];
      values = 255 ∷ 1 ∷ 0 ∷ 7 ∷ 0 ∷ 4 ∷ 1 ∷ 0 ∷ [];
      whole = refl;
      counts = (refl, refl);
      sizes = (refl, refl);
      named = (11 ∷ 0 ∷ [], 1 ∷ 0 ∷ [], [], [], [], refl, refl, (refl, refl), (refl, refl), refl, (refl, refl));
      spelled = (
        2 ∷ 13 ∷ 0 ∷ [],
        [],
        20,
        [],
        refl,
        inr (record {
          kind = 2;
          offset = 13 ∷ 0 ∷ [];
          gap = 255 ∷ [];
          value = 1 ∷ 0 ∷ 7 ∷ 0 ∷ 4 ∷ 1 ∷ 0 ∷ [];
          whole = refl;
          large = refl;
          apart = refl;
          points = (refl, refl);
          spelled = (
            2,
            inl (refl, refl),
            record {
              count = 1 ∷ 0 ∷ [];
              size = 7 ∷ 0 ∷ [];
              entries = 4 ∷ 1 ∷ 0 ∷ [];
              values = [];
              whole = refl;
              counts = (refl, refl);
              sizes = (refl, refl);
              spelled = (
                4 ∷ 1 ∷ 0 ∷ [],
                [],
                7,
                [],
                refl,
                inl (record {
                  kind = 4;
                  value = 1 ∷ [];
                  unused = 0 ∷ [];
                  whole = refl;
                  fills = refl;
                  small = refl;
                  spelled = (refl, refl);
                  stays = refl;
                  leaves = refl;
                }),
                refl,
              );
            },
          );
          ends = refl;
        }),
        refl,
      );
    },
  ),
)

pub returns-clause-not_spelled : goal.returns-clause-not_spelled
unfolding on_documents
returns-clause-not_spelled c = (
  unread one_and_x (hex "02 02 00 0c 00 05 01 00 0c 0b 00 01 78") refl,
  unread one_and_x (hex "02 02 00 0c 00 05 01 00 0c 09 00 01 78") refl,
  unread one_and_x (hex "02 02 00 0b 00 05 01 00 0c 0a 00 01 78") refl,
  unread one_and_x (hex "02 03 00 0c 00 05 01 00 0c 0a 00 01 78") refl,
  other one_and_x (array (element (integer (pos 2)) (element (text (codes "x")) no_elements))) (hex "02 02 00 0c 00 05 02 00 0c 0a 00 01 78") 1 refl (λ e. omega (arith, e)),
  unread one_and_x (hex "03 02 00 0c 00 05 01 00 0c 0a 00 01 78") refl,
)

pub returns-clause-members_not_spelled : goal.returns-clause-members_not_spelled
unfolding on_documents
returns-clause-members_not_spelled c = (
  unread a_is_70000 (hex "01 01 00 00 00 14 00 00 00 12 00 00 00 01 00 07 70 11 01 00 61") refl,
  unread a_is_70000 (hex "01 01 00 00 00 14 00 00 00 13 00 00 00 02 00 07 70 11 01 00 61") refl,
  other a_is_70000 (object (member (codes "b") (integer (pos 70000)) no_members)) (hex "01 01 00 00 00 14 00 00 00 13 00 00 00 01 00 07 70 11 01 00 62") 2 refl (λ e. omega (arith, e)),
  unread a_is_true (hex "00 01 00 14 00 0b 00 01 00 02 0c 00 61 ff 01 00 07 00 04 01 00 ff") refl,
)

pub returns-clause-spelled_decimals : goal.returns-clause-spelled_decimals
unfolding on_documents
returns-clause-spelled_decimals c = (
  record {
    precise = refl;
    sign = refl;
    grouped = (
      codes "1234567",
      codes "9876543",
      hex "00 12 d6 87",
      hex "00 96 b4 3f",
      refl,
      refl,
      refl,
      (lit< tt, (lit< tt, (lit< tt, (lit< tt, (lit< tt, (lit< tt, (lit< tt, tt))))))),
      refl,
      refl,
      (codes "9876543", [], hex "00 96 b4 3f", [], refl, refl, refl, (lit< tt, (lit< tt, (lit< tt, (lit< tt, (lit< tt, (lit< tt, (lit< tt, tt))))))), refl, refl, (refl, refl)),
    );
  },
  record {
    precise = refl;
    sign = refl;
    grouped = (
      codes "00000003",
      codes "14",
      hex "00 00 00 03",
      hex "0e",
      refl,
      refl,
      refl,
      (lit< tt, (lit< tt, (lit< tt, (lit< tt, (lit< tt, (lit< tt, (lit< tt, (lit< tt, tt)))))))),
      refl,
      refl,
      (codes "14", [], hex "0e", [], refl, refl, refl, (lit< tt, (lit< tt, tt)), refl, refl, (refl, refl)),
    );
  },
  λ is.
      let read = decimals_are_shown false 7 7 (codes "12345679876544") (hex "80 12 d6 87 00 96 b4 3f") is in
      let last = ap (λ (o : Option (List ℕ)). slice_index (unwrap_or o []) 14) read in
      omega (arith, last),
)
