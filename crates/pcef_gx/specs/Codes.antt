-- Which AVP an AVP is.
use Rattle.std.specs.Prelude.{ℕ, ◌==◌, ◌&&◌, Bool, unwrap_or}
use Rattle.pcef_diameter.specs.Avps.{Shown}
use Rattle.pcef_gx.specs.declared.code.Code.{Code}

-- no vendor is the vendor 0, the IETF
abbrev pub code_of : Shown → Code
code_of a = record { vendor = unwrap_or a.vendor 0; number = a.code }

abbrev pub has_code : Code → Shown → Bool
has_code code a = (a.code == code.number) && (unwrap_or a.vendor 0 == code.vendor)

abbrev pub ietf : ℕ → Code
ietf number = record { vendor = 0; number = number }

abbrev pub three_gpp : ℕ → Code
three_gpp number = record { vendor = 10415; number = number }

-- RFC 6733, clause 4.5, and RFC 8506, clause 8
abbrev pub framed_ip_address : Code
framed_ip_address = ietf 8

abbrev pub framed_ipv6_prefix : Code
framed_ipv6_prefix = ietf 97

abbrev pub session_id : Code
session_id = ietf 263

abbrev pub auth_application_id : Code
auth_application_id = ietf 258

abbrev pub origin_host : Code
origin_host = ietf 264

abbrev pub origin_realm : Code
origin_realm = ietf 296

abbrev pub destination_realm : Code
destination_realm = ietf 283

abbrev pub destination_host : Code
destination_host = ietf 293

abbrev pub re_auth_request_type : Code
re_auth_request_type = ietf 285

abbrev pub result_code : Code
result_code = ietf 268

abbrev pub experimental_result : Code
experimental_result = ietf 297

abbrev pub experimental_result_code : Code
experimental_result_code = ietf 298

abbrev pub vendor_id : Code
vendor_id = ietf 266

abbrev pub failed_avp : Code
failed_avp = ietf 279

abbrev pub proxy_info : Code
proxy_info = ietf 284

abbrev pub origin_state_id : Code
origin_state_id = ietf 278

abbrev pub cc_request_type : Code
cc_request_type = ietf 416

abbrev pub cc_request_number : Code
cc_request_number = ietf 415

abbrev pub granted_service_unit : Code
granted_service_unit = ietf 431

abbrev pub used_service_unit : Code
used_service_unit = ietf 446

abbrev pub cc_total_octets : Code
cc_total_octets = ietf 421

-- TS 29.212, clauses 5.3 and 5.4
abbrev pub flow_description : Code
flow_description = three_gpp 507

abbrev pub flow_status : Code
flow_status = three_gpp 511

abbrev pub max_requested_bandwidth_dl : Code
max_requested_bandwidth_dl = three_gpp 515

abbrev pub max_requested_bandwidth_ul : Code
max_requested_bandwidth_ul = three_gpp 516

abbrev pub charging_rule_install : Code
charging_rule_install = three_gpp 1001

abbrev pub charging_rule_remove : Code
charging_rule_remove = three_gpp 1002

abbrev pub charging_rule_definition : Code
charging_rule_definition = three_gpp 1003

abbrev pub charging_rule_base_name : Code
charging_rule_base_name = three_gpp 1004

abbrev pub charging_rule_name : Code
charging_rule_name = three_gpp 1005

abbrev pub event_trigger : Code
event_trigger = three_gpp 1006

abbrev pub online : Code
online = three_gpp 1009

abbrev pub precedence : Code
precedence = three_gpp 1010

abbrev pub tos_traffic_class : Code
tos_traffic_class = three_gpp 1014

abbrev pub qos_information : Code
qos_information = three_gpp 1016

abbrev pub charging_rule_report : Code
charging_rule_report = three_gpp 1018

abbrev pub pcc_rule_status : Code
pcc_rule_status = three_gpp 1019

abbrev pub bearer_identifier : Code
bearer_identifier = three_gpp 1020

abbrev pub guaranteed_bitrate_dl : Code
guaranteed_bitrate_dl = three_gpp 1025

abbrev pub guaranteed_bitrate_ul : Code
guaranteed_bitrate_ul = three_gpp 1026

abbrev pub ip_can_type : Code
ip_can_type = three_gpp 1027

abbrev pub qos_class_identifier : Code
qos_class_identifier = three_gpp 1028

abbrev pub rule_failure_code : Code
rule_failure_code = three_gpp 1031

abbrev pub allocation_retention_priority : Code
allocation_retention_priority = three_gpp 1034

abbrev pub rule_activation_time : Code
rule_activation_time = three_gpp 1043

abbrev pub rule_deactivation_time : Code
rule_deactivation_time = three_gpp 1044

abbrev pub session_release_cause : Code
session_release_cause = three_gpp 1045

abbrev pub priority_level : Code
priority_level = three_gpp 1046

abbrev pub pre_emption_capability : Code
pre_emption_capability = three_gpp 1047

abbrev pub pre_emption_vulnerability : Code
pre_emption_vulnerability = three_gpp 1048

abbrev pub default_eps_bearer_qos : Code
default_eps_bearer_qos = three_gpp 1049

abbrev pub security_parameter_index : Code
security_parameter_index = three_gpp 1056

abbrev pub flow_label : Code
flow_label = three_gpp 1057

abbrev pub flow_information : Code
flow_information = three_gpp 1058

abbrev pub monitoring_key : Code
monitoring_key = three_gpp 1066

abbrev pub usage_monitoring_information : Code
usage_monitoring_information = three_gpp 1067

abbrev pub usage_monitoring_level : Code
usage_monitoring_level = three_gpp 1068

abbrev pub usage_monitoring_report : Code
usage_monitoring_report = three_gpp 1069

abbrev pub usage_monitoring_support : Code
usage_monitoring_support = three_gpp 1070

abbrev pub flow_direction : Code
flow_direction = three_gpp 1080

abbrev pub redirect_information : Code
redirect_information = three_gpp 1085

abbrev pub tdf_application_identifier : Code
tdf_application_identifier = three_gpp 1088

abbrev pub extended_gbr_dl : Code
extended_gbr_dl = three_gpp 2850

abbrev pub extended_gbr_ul : Code
extended_gbr_ul = three_gpp 2851
