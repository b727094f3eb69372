-- The phrases by name, so that a line's definition says which words it has; born from phrases.txt.
use Rattle.std.specs.Prelude.{ℕ}

abbrev pub nothing_words : ℕ
nothing_words = 0

abbrev pub end_words : ℕ
end_words = 1

abbrev pub trade_words : ℕ
trade_words = 2

abbrev pub none_words : ℕ
none_words = 3

abbrev pub adjust_words : ℕ
adjust_words = 4

abbrev pub nullify_words : ℕ
nullify_words = 5

abbrev pub wait_words : ℕ
wait_words = 6

abbrev pub reason_words : ℕ
reason_words = 7

abbrev pub refused_words : ℕ
refused_words = 8

abbrev pub refused_case_words : ℕ
refused_case_words = 9

abbrev pub way_obvious_words : ℕ
way_obvious_words = 10

abbrev pub way_opening_words : ℕ
way_opening_words = 11

abbrev pub way_catastrophic_words : ℕ
way_catastrophic_words = 12

abbrev pub way_none_words : ℕ
way_none_words = 13

abbrev pub on_words : ℕ
on_words = 14

abbrev pub comma_words : ℕ
comma_words = 15

abbrev pub after_execution_words : ℕ
after_execution_words = 16

abbrev pub executed_words : ℕ
executed_words = 17

abbrev pub rule_obvious_words : ℕ
rule_obvious_words = 18

abbrev pub rule_opening_words : ℕ
rule_opening_words = 19

abbrev pub rule_catastrophic_words : ℕ
rule_catastrophic_words = 20

abbrev pub rule_late_words : ℕ
rule_late_words = 21

abbrev pub not_obvious_day_words : ℕ
not_obvious_day_words = 22

abbrev pub not_obvious_time_words : ℕ
not_obvious_time_words = 23

abbrev pub for_words : ℕ
for_words = 24

abbrev pub not_opening_day_words : ℕ
not_opening_day_words = 25

abbrev pub not_opening_trade_words : ℕ
not_opening_trade_words = 26

abbrev pub not_opening_party_words : ℕ
not_opening_party_words = 27

abbrev pub not_opening_soon_words : ℕ
not_opening_soon_words = 28

abbrev pub not_opening_late_words : ℕ
not_opening_late_words = 29

abbrev pub not_catastrophic_day_words : ℕ
not_catastrophic_day_words = 30

abbrev pub not_catastrophic_expiry_words : ℕ
not_catastrophic_expiry_words = 31

abbrev pub not_catastrophic_next_words : ℕ
not_catastrophic_next_words = 32

abbrev pub open_up_to_words : ℕ
open_up_to_words = 33

abbrev pub filed_on_words : ℕ
filed_on_words = 34

abbrev pub panel_words : ℕ
panel_words = 35

abbrev pub rule_panel_words : ℕ
rule_panel_words = 36

abbrev pub quotes_words : ℕ
quotes_words = 37

abbrev pub at_least_the_bid_words : ℕ
at_least_the_bid_words = 38

abbrev pub under_the_bid_words : ℕ
under_the_bid_words = 39

abbrev pub plus_twice_words : ℕ
plus_twice_words = 40

abbrev pub wide_words : ℕ
wide_words = 41

abbrev pub not_wide_words : ℕ
not_wide_words = 42

abbrev pub tp_words : ℕ
tp_words = 43

abbrev pub the_offer_words : ℕ
the_offer_words = 44

abbrev pub the_bid_words : ℕ
the_bid_words = 45

abbrev pub official_words : ℕ
official_words = 46

abbrev pub tp_none_words : ℕ
tp_none_words = 47

abbrev pub offer_is_words : ℕ
offer_is_words = 48

abbrev pub bid_is_words : ℕ
bid_is_words = 49

abbrev pub rule_official_words : ℕ
rule_official_words = 50

abbrev pub rule_wide_official_words : ℕ
rule_wide_official_words = 51

abbrev pub rule_unpriced_words : ℕ
rule_unpriced_words = 52

abbrev pub rule_wide_unpriced_words : ℕ
rule_wide_unpriced_words = 53

abbrev pub error_words : ℕ
error_words = 54

abbrev pub is_at_least_words : ℕ
is_at_least_words = 55

abbrev pub is_under_words : ℕ
is_under_words = 56

abbrev pub plus_words : ℕ
plus_words = 57

abbrev pub minus_words : ℕ
minus_words = 58

abbrev pub equals_words : ℕ
equals_words = 59

abbrev pub by_words : ℕ
by_words = 60

abbrev pub semicolon_words : ℕ
semicolon_words = 61

abbrev pub obvious_minimum_words : ℕ
obvious_minimum_words = 62

abbrev pub catastrophic_minimum_words : ℕ
catastrophic_minimum_words = 63

abbrev pub to_words : ℕ
to_words = 64

abbrev pub rule_error_words : ℕ
rule_error_words = 65

abbrev pub agreement_words : ℕ
agreement_words = 66

abbrev pub no_agreement_words : ℕ
no_agreement_words = 67

abbrev pub made_words : ℕ
made_words = 68

abbrev pub with_customer_words : ℕ
with_customer_words = 69

abbrev pub without_customer_words : ℕ
without_customer_words = 70

abbrev pub price_counts_words : ℕ
price_counts_words = 71

abbrev pub nullify_counts_words : ℕ
nullify_counts_words = 72

abbrev pub too_late_words : ℕ
too_late_words = 73

abbrev pub not_with_customer_words : ℕ
not_with_customer_words = 74

abbrev pub act_buyer_words : ℕ
act_buyer_words = 75

abbrev pub seller_is_words : ℕ
seller_is_words = 76

abbrev pub colon_words : ℕ
colon_words = 77

abbrev pub undone_words : ℕ
undone_words = 78

abbrev pub rule_obvious_act_words : ℕ
rule_obvious_act_words = 79

abbrev pub act_itself_words : ℕ
act_itself_words = 80

abbrev pub rule_opening_act_words : ℕ
rule_opening_act_words = 81

abbrev pub act_words : ℕ
act_words = 82

abbrev pub rule_catastrophic_act_words : ℕ
rule_catastrophic_act_words = 83

abbrev pub limit_buyer_words : ℕ
limit_buyer_words = 84

abbrev pub limit_seller_words : ℕ
limit_seller_words = 85

abbrev pub its_limit_words : ℕ
its_limit_words = 86

abbrev pub is_above_words : ℕ
is_above_words = 87

abbrev pub is_below_words : ℕ
is_below_words = 88

abbrev pub keeps_words : ℕ
keeps_words = 89

abbrev pub rule_own_limit_words : ℕ
rule_own_limit_words = 90

abbrev pub rule_other_limit_words : ℕ
rule_other_limit_words = 91

abbrev pub rule_customer_limit_words : ℕ
rule_customer_limit_words = 92

abbrev pub acceptance_words : ℕ
acceptance_words = 93

abbrev pub allowed_words : ℕ
allowed_words = 94

abbrev pub in_time_words : ℕ
in_time_words = 95

abbrev pub not_in_time_words : ℕ
not_in_time_words = 96

abbrev pub contracts_words : ℕ
contracts_words = 97

abbrev pub of_words : ℕ
of_words = 98

abbrev pub adjusted_to_words : ℕ
adjusted_to_words = 99

abbrev pub stand_words : ℕ
stand_words = 100

abbrev pub quote_size_words : ℕ
quote_size_words = 101

abbrev pub rule_quoted_size_words : ℕ
rule_quoted_size_words = 102

abbrev pub rule_official_size_words : ℕ
rule_official_size_words = 103

abbrev pub rule_every_contract_words : ℕ
rule_every_contract_words = 104

abbrev pub nullified_words : ℕ
nullified_words = 105

abbrev pub all_stand_words : ℕ
all_stand_words = 106

abbrev pub careful_bid_words : ℕ
careful_bid_words = 107

abbrev pub careful_offer_words : ℕ
careful_offer_words = 108

abbrev pub careful_official_words : ℕ
careful_official_words = 109

abbrev pub careful_buyer_words : ℕ
careful_buyer_words = 110

abbrev pub careful_seller_words : ℕ
careful_seller_words = 111

abbrev pub turned_words : ℕ
turned_words = 112

abbrev pub nearer_words : ℕ
nearer_words = 113

abbrev pub case_length_words : ℕ
case_length_words = 114

abbrev pub head_length_words : ℕ
head_length_words = 115

abbrev pub head_kind_words : ℕ
head_kind_words = 116

abbrev pub zero_words : ℕ
zero_words = 117

abbrev pub side_words : ℕ
side_words = 118

abbrev pub opening_flag_words : ℕ
opening_flag_words = 119

abbrev pub expiry_flag_words : ℕ
expiry_flag_words = 120

abbrev pub panel_flag_words : ℕ
panel_flag_words = 121

abbrev pub buyer_kind_words : ℕ
buyer_kind_words = 122

abbrev pub seller_kind_words : ℕ
seller_kind_words = 123

abbrev pub filing_day_words : ℕ
filing_day_words = 124

abbrev pub agreement_code_words : ℕ
agreement_code_words = 125

abbrev pub buyer_code_words : ℕ
buyer_code_words = 126

abbrev pub seller_code_words : ℕ
seller_code_words = 127

abbrev pub execution_price_words : ℕ
execution_price_words = 128

abbrev pub best_bid_words : ℕ
best_bid_words = 129

abbrev pub best_offer_words : ℕ
best_offer_words = 130

abbrev pub official_price_words : ℕ
official_price_words = 131

abbrev pub buyer_limit_words : ℕ
buyer_limit_words = 132

abbrev pub seller_limit_words : ℕ
seller_limit_words = 133

abbrev pub agreed_price_words : ℕ
agreed_price_words = 134

abbrev pub differential_words : ℕ
differential_words = 135

abbrev pub contracts_traded_words : ℕ
contracts_traded_words = 136

abbrev pub bid_size_words : ℕ
bid_size_words = 137

abbrev pub offer_size_words : ℕ
offer_size_words = 138

abbrev pub execution_time_words : ℕ
execution_time_words = 139

abbrev pub filing_time_words : ℕ
filing_time_words = 140

abbrev pub agreement_made_words : ℕ
agreement_made_words = 141

abbrev pub acceptance_made_words : ℕ
acceptance_made_words = 142

abbrev pub or_more_words : ℕ
or_more_words = 143

abbrev pub or_words : ℕ
or_words = 144

abbrev pub case_has_words : ℕ
case_has_words = 145

abbrev pub execution_is_words : ℕ
execution_is_words = 146

abbrev pub executed_at_words : ℕ
executed_at_words = 147

abbrev pub agreement_is_words : ℕ
agreement_is_words = 148

abbrev pub rule_refusal_words : ℕ
rule_refusal_words = 149

abbrev pub bracket_words : ℕ
bracket_words = 150
